-- `squared_distance` meets its contract, by computation. Assumes nothing.
use mathlib.Core.Path.{refl}
use Rattle.float.specs.Floats.{squared}
use Rattle.homography.proofs.squared_distance.Goals as goal

pub returns : goal.returns
unfolding squared
returns c = refl
