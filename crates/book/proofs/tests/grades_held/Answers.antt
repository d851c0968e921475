-- `book::tests::grades_held` meets its contract. Assumes nothing.
use borrow.Author.Tests.{lt-leb, le-leb}
use native.Mathlib.Omega.{arith}
use mathlib.Core.Path.{sym}
use Rattle.base.proofs.Every.{every_begin, every_more, every_stops, every_end}
use Rattle.book.specs.Layout.{grade_at}
use Rattle.book.specs.Promises.{grades_held}
use Rattle.book.proofs.tests.grades_held.Goals as goal

pub loop-j-init : goal.loop-j-init
loop-j-init c = every_begin _

pub returns-then-heads-j-gt2 : goal.returns-then-heads-j-gt2
unfolding grades_held grade_at
returns-then-heads-j-gt2 c = sym (every_stops _ c.loop-j.j _ (omega arith) (lt-leb _ 2 c.if-heads-j-gt2.true))

pub loop-j-preserved : goal.loop-j-preserved
unfolding grade_at
loop-j-preserved c = every_more _ c.loop-j.j c.loop-j.invariant (le-leb _ 2 c.if-heads-j-gt2.false)

pub returns : goal.returns
unfolding grades_held
returns c = sym (every_end _ c.loop-j.j _ c.loop-j.invariant (omega arith))
