-- No mask has more patches than the checkerboard: theorems that a reader can cite (requirements, 22). proofs/Most shows
-- them. Assumes nothing.
use Rattle.std.specs.Prelude.{ℕ, ◌*◌, ◌≤◌, ◌≡◌, List, length, take}
use Rattle.blobs.specs.Areas.{PatchAreas}
use Rattle.blobs.specs.Promises.{Labelling}
use Rattle.blobs.specs.Patches.{PatchCount}
use Rattle.checkerboard.specs.Board.{board, reserved}
use Rattle.checkerboard.specs.Promises.{Drawing}

-- of masks of w by h pixels
pub record MostPatches (w h : ℕ) : Type 0 where
  -- [22.2] the checkerboard has exactly ⌈w·h/2⌉ patches
  pub exactly : PatchCount (board w h) w (reserved w h)
  -- [22.4] no other mask of the same size has more, whatever its bytes
  pub none_more : (m : List ℕ) (n : ℕ) → length m ≡ w * h → PatchCount m w n → n ≤ reserved w h

-- [22.2] for every capture size within the limits, and past them
abbrev pub MostAtEverySize : Type 0
MostAtEverySize = (w h : ℕ) → 1 ≤ w → 1 ≤ h → MostPatches w h

-- [22.2] the mask that `checkerboard` writes has exactly ⌈w·h/2⌉ patches
abbrev pub DrawnExactly : Type 0
DrawnExactly =
    (w h : ℕ) (mask mask' : List ℕ) (number : ℕ)
    → Drawing w h mask mask' number
    → number ≡ 0
    → PatchCount (take (w * h) mask') w (reserved w h)

-- [22.1] what `label_blobs` answers for a mask of w by h pixels, accepted by number 0: the number n of its patches
pub record Reserve (w h : ℕ) : Type 0 where
  -- half would not do: the checkerboard takes every record that is reserved
  pub all_taken : (before after : PatchAreas) (number n waited : ℕ) → Labelling (board w h) w h before after number n
      waited → number ≡ 0 → n ≡ reserved w h
  -- more is never needed
  pub enough : (m : List ℕ) (before after : PatchAreas) (number n waited : ℕ) → Labelling m w h before after number n
      waited → n ≤ reserved w h

abbrev pub ReserveAtEverySize : Type 0
ReserveAtEverySize = (w h : ℕ) → Reserve w h
