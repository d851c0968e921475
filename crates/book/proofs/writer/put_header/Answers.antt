-- `book::writer::put_header` meets its contract. Assumes nothing.
use Rattle.base.specs.Loops.{joined}
use Rattle.book.specs.Layout.{header}
use Rattle.book.proofs.writer.put_header.Goals as goal

pub returns : goal.returns
unfolding header joined
returns c = c.put_numbers.ensures
