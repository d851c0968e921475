-- `reduce_row` meets its contract. The loop's invariant: the entries from col up to j are reduced. Assumes nothing.
use mathlib.Core.Path.{◌∙◌}
use native.Mathlib.Omega.{arith}
use lib.Ieee.{of_bits, of_int}
use borrow.Author.Tests.{eq-eqb, ne_eqb}
use Rattle.base.proofs.Pick.{pick_yes, pick_no}
use Rattle.base.proofs.Turns.{between_begin, between_step, between_end}
use Rattle.homography.specs.Elimination.{reduced}
use Rattle.homography.proofs.solve.reduce_row.Goals as goal

pub returns-then-r-col : goal.returns-then-r-col
unfolding reduced
returns-then-r-col c = pick_yes _ _ _ (eq-eqb _ _ c.if-r-col.true)

pub returns-then-f : goal.returns-then-f
unfolding reduced of_bits of_int
returns-then-f c = pick_yes _ _ _ c.if-f.true ∙ pick_no _ _ _ (ne_eqb _ _ c.if-r-col.false)

pub loop-j-init : goal.loop-j-init
loop-j-init c = between_begin _ _ _

pub loop-j-preserved : goal.loop-j-preserved
loop-j-preserved c =
    let l = c.loop-j in
    between_step _ _ _ l.j l.auto.j l.invariant

pub returns : goal.returns
unfolding reduced of_bits of_int
returns c =
    between_end _ _ _ _ _ c.loop-j.invariant (omega arith)
    ∙ pick_no _ _ _ c.if-f.false
    ∙ pick_no _ _ _ (ne_eqb _ _ c.if-r-col.false)
