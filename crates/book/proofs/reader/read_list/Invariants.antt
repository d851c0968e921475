-- `book::reader::read_list` meets its contract. The loop's invariant: the first i entries are read. Assumes nothing.
use mathlib.Core.Path.{◌≡◌}
use Prim.Native.Nat.{ℕ, ◌<◌}
use Rattle.base.specs.Loops.{filled}
use Rattle.book.proofs.reader.read_list.Given as goal

abbrev pub invariant-loop-i : goal.invariant-loop-i
invariant-loop-i g l =
    (f : ℕ → _) → ((i : ℕ) (x : _) → i < l.n → goal.F-post g l.entry i x → x ≡ f i) → l.list ≡ filled f l.i l.initial.list
