-- `solve8` meets its contract. The loop's invariant: the columns up to col had a pivot and are cleared. Assumes nothing.
use mathlib.Core.Bool.{true, false}
use mathlib.Core.Path.{◌≡◌, sym, ap, ◌∙◌}
use native.Mathlib.Omega.{arith}
use lib.Ieee.{lt, of_bits, of_int, round}
use Rattle.std.specs.Prelude.{Some}
use Rattle.base.proofs.Turns.{turns_begin, turns_step, turns_end}
use Rattle.float.specs.Floats.{abs_of, tiny, d64}
use Rattle.homography.specs.Arithmetic.{rounded}
use Rattle.homography.specs.Elimination.{entry, eliminated, no_pivot}
use Rattle.homography.proofs.Steps.{on, goes, halted, finished}
use Rattle.homography.proofs.solve.solve8.Goals as goal

pub loop-col-init : goal.loop-col-init
loop-col-init c = turns_begin _ _

pub returns-then-abs : goal.returns-then-abs
unfolding no_pivot of_bits of_int d64 round
returns-then-abs c =
    let l = c.loop-col in
    let r : no_pivot rounded l.a l.col ≡ true =
    ap (λ p. lt (abs_of (entry rounded l.a p l.col)) tiny) (sym c.pivot-piv.ensures.0)
    ∙ ap (λ x. lt x tiny) (sym c.abs.ensures)
    ∙ c.if-abs.true
    in
    halted _ l.a l.col l.invariant (omega arith) r

pub loop-col-preserved : goal.loop-col-preserved
unfolding no_pivot of_bits d64 round
loop-col-preserved c =
    let l = c.loop-col in
    let r : no_pivot rounded l.a l.col ≡ false =
    ap (λ p. lt (abs_of (entry rounded l.a p l.col)) tiny) (sym c.pivot-piv.ensures.0)
    ∙ ap (λ x. lt x tiny) (sym c.abs.ensures)
    ∙ c.if-abs.false
    in
    ap on c.clear_column.ensures ∙ goes _ _ r ∙ turns_step _ _ _ l.invariant

pub returns : goal.returns
unfolding eliminated
returns c =
    let l = c.loop-col in
    ap Some c.last_column.ensures ∙ finished _ l.a (turns_end _ _ _ _ l.invariant (omega arith))
