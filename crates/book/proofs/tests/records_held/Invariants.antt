-- `book::tests::records_held` meets its contract. The loop's invariant: the test holds for all before j. Assumes nothing.
use Rattle.book.specs.Promises.{record_held}
use Rattle.base.specs.Loops.{every}
use mathlib.Core.Bool.{true}
use mathlib.Core.Path.{◌≡◌}
use Rattle.book.proofs.tests.records_held.Given as goal

abbrev pub invariant-loop-j : goal.invariant-loop-j
invariant-loop-j l = every l.j (record_held l.book) ≡ true
