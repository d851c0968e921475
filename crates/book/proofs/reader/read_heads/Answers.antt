-- `book::reader::read_heads` meets its contract. Assumes nothing.
use borrow.Author.Rules.{rules}
use Rattle.book.specs.Layout.{head_entry}
use Rattle.book.proofs.reader.read_heads.Goals as goal

pub returns : goal.returns
unfolding head_entry
returns c = c.read_list.ensures (head_entry c.args.book.now) (λ i x h p. search rules)
