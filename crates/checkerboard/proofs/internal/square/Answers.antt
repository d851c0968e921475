-- `checkerboard::internal::square` meets its contract. Assumes nothing.
use borrow.Author.Tests.{eq-eqb, ne_eqb}
use Rattle.base.proofs.Pick.{pick_yes, pick_no}
use Rattle.checkerboard.specs.Board.{square}
use Rattle.checkerboard.proofs.internal.square.Goals as goal

pub returns-then-x-y-eq0 : goal.returns-then-x-y-eq0
unfolding square
returns-then-x-y-eq0 c = pick_yes _ 1 0 (eq-eqb _ 0 c.if-x-y-eq0.true)

pub returns-else-x-y-eq0 : goal.returns-else-x-y-eq0
unfolding square
returns-else-x-y-eq0 c = pick_no _ 1 0 (ne_eqb _ 0 c.if-x-y-eq0.false)
