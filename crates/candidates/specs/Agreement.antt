-- [14.3] no answer depends on what the work areas held before: what two looks at one picture leave alike, whatever
-- the areas held and however long they are. proofs/Determined shows it from what a look promises. Assumes nothing.
use Rattle.std.specs.Prelude.{ℕ, ◌<◌, ◌≡◌, take}
use Rattle.frame.specs.Image.{Image}
use Rattle.blobs.specs.Patches.{patch_at}
use Rattle.candidates.specs.Areas.{Areas, pixels, integral_length}
use Rattle.candidates.specs.Ring.{candidate_at}

-- what two looks left in b and b', each with n patches and k candidates; the waiting list is free
pub record SameLook (img : Image) (b b' : Areas) (n k : ℕ) : Type 0 where
  -- every plane and mark
  pub luma : take (pixels img) b.luma ≡ take (pixels img) b'.luma
  pub integral : take (integral_length img) b.integral ≡ take (integral_length img) b'.integral
  pub mask : take (pixels img) b.mask ≡ take (pixels img) b'.mask
  pub seen : take (pixels img) b.seen ≡ take (pixels img) b'.seen
  -- every record
  pub patches : (j : ℕ) → j < n → patch_at b.patches j ≡ patch_at b'.patches j
  pub candidates : (i : ℕ) → i < k
      → candidate_at b.candidates b.blob_index i ≡ candidate_at b'.candidates b'.blob_index i
