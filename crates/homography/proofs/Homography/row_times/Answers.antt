-- `Homography::row_times` meets its contract. Assumes nothing.
use native.Mathlib.Nat.{add-zero}
use Rattle.homography.specs.Homography.{row_times}
use Rattle.homography.proofs.Homography.row_times.Goals as goal

pub returns : goal.returns
unfolding row_times
returns c = simp add-zero
