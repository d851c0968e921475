-- `divide_row` meets its contract. The loop's invariant: the entries from col up to j are divided. Assumes nothing.
use native.Mathlib.Omega.{arith}
use Rattle.base.proofs.Turns.{between_begin, between_step, between_end}
use Rattle.homography.specs.Elimination.{divided}
use Rattle.homography.proofs.solve.divide_row.Goals as goal

pub loop-j-init : goal.loop-j-init
loop-j-init c = between_begin _ _ _

pub loop-j-preserved : goal.loop-j-preserved
loop-j-preserved c =
    let l = c.loop-j in
    between_step _ _ _ l.j l.auto.j l.invariant

pub returns : goal.returns
unfolding divided
returns c = between_end _ _ _ _ _ c.loop-j.invariant (omega arith)
