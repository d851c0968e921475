-- `fiducials::quadrilateral::too_small` meets its contract. Assumes nothing.
use Prim.Native.Nat.{◌*◌}
use mathlib.Core.Path.{ap}
use lib.Ieee.{of_bits, of_int, lt}
use Rattle.float.specs.Floats.{◌⊗◌, f64, d64}
use Rattle.fiducials.specs.Corners.{too_small}
use Rattle.fiducials.proofs.quadrilateral.too_small.Goals as goal

pub returns : goal.returns
unfolding too_small of_bits of_int d64
returns c =
    let a = c.args in
    ap (λ z. lt z (d64 4 100 ⊗ f64 (a.w * a.h))) c.area.ensures
