-- `mat3_mul` meets its contract. The loop's invariant: the first n entries are the product's. Assumes nothing.
use mathlib.Core.Path.{refl, ◌∙◌}
use native.Mathlib.Omega.{arith}
use lib.Ieee.{of_bits, of_int}
use Rattle.base.specs.Loops.{by_row}
use Rattle.base.proofs.Plane.{filled_begin, filled_step, filled_end}
use Rattle.base.proofs.Table.{filled_whole}
use Rattle.homography.specs.Homography.{mat3_mul}
use Rattle.homography.proofs.mat3_mul.Goals as goal

pub loop-n-init : goal.loop-n-init
loop-n-init c = filled_begin _ _

pub loop-n-preserved : goal.loop-n-preserved
unfolding by_row
loop-n-preserved c =
    let l = c.loop-n in
    filled_step _ _ l.n _ l.invariant c.product_at.ensures

pub returns : goal.returns
unfolding of_bits of_int mat3_mul
returns c = filled_end _ _ _ _ c.loop-n.invariant (omega arith) ∙ filled_whole _ _ _ refl
