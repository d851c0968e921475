-- `fiducials::quadrilateral::area` meets its contract. Assumes nothing.
use lib.Ieee.{of_bits, of_int}
use Rattle.float.specs.Floats.{d64}
use Rattle.fiducials.specs.Corners.{quad_area}
use Rattle.fiducials.proofs.quadrilateral.area.Goals as goal

pub returns : goal.returns
unfolding quad_area of_bits of_int d64
returns c = cc
