-- `book::tests::record_held` meets its contract. Assumes nothing.
use Rattle.book.specs.Layout.{grade_in, zero_in}
use Rattle.book.specs.Promises.{record_held}
use Rattle.book.proofs.tests.record_held.Goals as goal

pub returns : goal.returns
unfolding record_held grade_in zero_in
returns c = cc
