-- `book::tests::records_held` meets its contract. Assumes nothing.
use native.Mathlib.Omega.{arith}
use mathlib.Core.Path.{sym, ◌∙◌}
use Rattle.base.proofs.Every.{every_begin, every_more, every_stops, every_end}
use Rattle.book.specs.Promises.{records_held}
use Rattle.book.proofs.tests.records_held.Goals as goal

pub loop-j-init : goal.loop-j-init
loop-j-init c = every_begin _

pub returns-then-not-record_held : goal.returns-then-not-record_held
unfolding records_held
returns-then-not-record_held c = sym (every_stops _ c.loop-j.j _ (omega arith) (sym c.record_held.ensures ∙ c.if-not-record_held.true))

pub loop-j-preserved : goal.loop-j-preserved
loop-j-preserved c = every_more _ c.loop-j.j c.loop-j.invariant (sym c.record_held.ensures ∙ c.if-not-record_held.false)

pub returns : goal.returns
unfolding records_held
returns c = sym (every_end _ c.loop-j.j _ c.loop-j.invariant (omega arith))
