-- `cofactors` meets its contract, by computation. Assumes nothing.
use mathlib.Core.Path.{refl}
use Rattle.homography.specs.Homography.{adjugate}
use Rattle.homography.proofs.cofactors.Goals as goal

pub returns : goal.returns
unfolding adjugate
returns c = refl
