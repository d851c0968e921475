-- `book::keys::key_in` meets its contract. Assumes nothing.
use Rattle.book.specs.Layout.{key_in}
use Rattle.book.proofs.keys.key_in.Goals as goal

pub returns : goal.returns
unfolding key_in
returns c = cc
