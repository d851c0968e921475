-- `swap_rows` meets its contract. The loop's invariant: the first j entries have changed places. Assumes nothing.
use mathlib.Core.Path.{sym, ◌∙◌}
use native.Mathlib.Omega.{arith}
use lib.Ieee.{nan}
use Rattle.std.proofs.lemmas.List.Edits.{swap_is}
use Rattle.base.proofs.Turns.{turns_begin, turns_step, turns_end}
use Rattle.homography.specs.Elimination.{swapped}
use Rattle.homography.proofs.solve.swap_rows.Goals as goal

pub loop-j-init : goal.loop-j-init
loop-j-init c = turns_begin _ _

pub loop-j-preserved : goal.loop-j-preserved
loop-j-preserved c =
    let l = c.loop-j in
    c.swap.ensures.after ∙ sym (swap_is l.a _ _ nan (omega arith) (omega arith)) ∙ turns_step _ _ _ l.invariant

pub returns : goal.returns
unfolding swapped
returns c = turns_end _ _ _ _ c.loop-j.invariant (omega arith)
