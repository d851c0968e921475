-- `clear_column` meets its contract. The loop's invariant: the rows up to r are reduced. Assumes nothing.
use mathlib.Core.Path.{◌∙◌}
use native.Mathlib.Omega.{arith}
use Rattle.base.proofs.Turns.{turns_begin, turns_step, turns_end}
use Rattle.homography.proofs.Steps.{column_cleared}
use Rattle.homography.proofs.solve.clear_column.Goals as goal

pub loop-r-init : goal.loop-r-init
loop-r-init c = turns_begin _ _

pub loop-r-preserved : goal.loop-r-preserved
loop-r-preserved c = c.reduce_row.ensures ∙ turns_step _ _ _ c.loop-r.invariant

pub returns : goal.returns
returns c =
    turns_end _ _ _ _ c.loop-r.invariant (omega arith)
    ∙ column_cleared _ _ _ _ _ c.requires.1 c.swap_rows.ensures c.divide_row.ensures
