-- `book::reader::read_numbers` meets its contract. Assumes nothing.
use borrow.Author.Rules.{rules}
use Rattle.book.specs.Layout.{u64_at, number_entry}
use Rattle.book.proofs.reader.read_numbers.Goals as goal

pub returns : goal.returns
unfolding number_entry u64_at
returns c = c.read_list.ensures (number_entry c.args.book.now) (λ i x h p. search rules)
