-- `book::keys::key_at` meets its contract. Assumes nothing.
use mathlib.Core.Path.{refl}
use Rattle.book.specs.Layout.{key_at}
use Rattle.book.proofs.keys.key_at.Goals as goal

pub returns : goal.returns
unfolding key_at
returns c = refl
