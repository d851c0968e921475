-- `last_column` meets its contract. The loop's invariant: the first r entries are the column's. Assumes nothing.
use mathlib.Core.Path.{refl, ◌∙◌}
use native.Mathlib.Omega.{arith}
use lib.Ieee.{of_bits, of_int}
use Rattle.base.proofs.Plane.{filled_begin, filled_step, filled_end}
use Rattle.base.proofs.Table.{filled_whole}
use Rattle.homography.specs.Elimination.{last_column}
use Rattle.homography.proofs.solve.last_column.Goals as goal

pub loop-r-init : goal.loop-r-init
loop-r-init c = filled_begin _ _

pub loop-r-preserved : goal.loop-r-preserved
loop-r-preserved c =
    let l = c.loop-r in
    filled_step _ _ l.r _ l.invariant refl

pub returns : goal.returns
unfolding of_bits of_int last_column
returns c = filled_end _ _ _ _ c.loop-r.invariant (omega arith) ∙ filled_whole _ _ _ refl
