-- What labelling a mask leaves (requirements, 7). Assumes nothing.
use Rattle.std.specs.Prelude.{ℕ, ◌*◌, ◌≡◌, List, length, drop}
use Rattle.base.specs.Loops.{table, filled}
use Rattle.blobs.specs.Patches.{ink, patch_at, Waited, PatchList}
use Rattle.blobs.specs.Stack.{scan_all, waited_of}
use Rattle.blobs.specs.Moments.{MostHeld}
use Rattle.blobs.specs.Areas.{PatchAreas}

-- of a mask m, w by h: the areas at entry and at exit, n records, and the most pixels that waited
pub record Labels (m : List ℕ) (w h : ℕ) (before after : PatchAreas) (n waited : ℕ) : Type 0 where
  -- [7.2] marks become 1 where dark and 0 elsewhere; [3.2] entries past w·h stay as they were
  pub marks : after.seen ≡ filled (ink m) (w * h) before.seen
  -- [7.1, 7.3, 7.4] the patches by meaning; [3.2] records past the last stay as they were
  pub firsts : List ℕ
  pub records : PatchList m w before.patches after.patches n firsts
  -- [25.1, 25.6] the most that the search's stack ever holds, over all patches
  pub most_held : MostHeld m w waited
  -- [7.5] 0 without dark pixels and otherwise from 1 up; [25.5] the largest area remains an upper limit
  pub waited_held : Waited after.patches n waited
  -- [14.3] whatever the areas held before: records and maximum are functions of the mask
  pub blobs : table (patch_at after.patches) n ≡ (scan_all m w).blobs
  pub waited_is : waited ≡ waited_of m w
  -- [14.2] the waiting list's content is free; [3.2] entries past w·h stay as they were
  pub waiting_long : length after.waiting ≡ length before.waiting
  pub waiting_rest : drop (w * h) after.waiting ≡ drop (w * h) before.waiting
