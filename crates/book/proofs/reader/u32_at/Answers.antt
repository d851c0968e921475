-- `book::reader::u32_at` meets its contract. Assumes nothing.
use Rattle.book.specs.Layout.{u32_at}
use Rattle.book.proofs.reader.u32_at.Goals as goal

pub returns : goal.returns
unfolding u32_at
returns c = c.little_endian.ensures.0
