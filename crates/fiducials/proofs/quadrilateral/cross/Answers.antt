-- `fiducials::quadrilateral::cross` meets its contract. Assumes nothing.
use mathlib.Core.Path.{refl}
use Rattle.fiducials.specs.Corners.{cross}
use Rattle.fiducials.proofs.quadrilateral.cross.Goals as goal

pub returns : goal.returns
unfolding cross
returns c = refl
