-- `book::records::record_at` meets its contract. Assumes nothing.
use Rattle.book.specs.Layout.{record_at}
use Rattle.book.proofs.records.record_at.Goals as goal

pub returns : goal.returns
unfolding record_at
returns c = cc
