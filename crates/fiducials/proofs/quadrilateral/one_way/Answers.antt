-- `fiducials::quadrilateral::one_way` meets its contract. Assumes nothing.
use mathlib.Core.Bool.{◌&&◌}
use lib.Ieee.{eq}
use Rattle.fiducials.specs.Corners.{one_way}
use Rattle.fiducials.proofs.quadrilateral.one_way.Goals as goal

pub returns : goal.returns
unfolding one_way
returns c =
    let e1 = c.orientation-s.ensures in
    let e2 = c.orientation.ensures in
    let e3 = c.orientation-2.ensures in
    let e4 = c.orientation-3.ensures in
    λ i. eq (e1 i) (e1 i) && eq (e2 i) (e1 i) && eq (e3 i) (e1 i) && eq (e4 i) (e1 i)
