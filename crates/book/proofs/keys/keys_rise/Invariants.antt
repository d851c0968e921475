-- `book::keys::keys_rise` meets its contract. The loop's invariant: the first j keys rise. Assumes nothing.
use mathlib.Core.Bool.{true}
use mathlib.Core.Path.{◌≡◌}
use Prim.Native.Nat.{ℕ, ◌-◌, ◌≤◌, ◌<◌}
use Rattle.base.specs.Loops.{every}
use Rattle.book.specs.Promises.{rises_at}
use Rattle.book.specs.declared.keys.Key.{Key}
use Rattle.book.proofs.keys.keys_rise.Given as goal

abbrev pub invariant-loop-j : goal.invariant-loop-j
invariant-loop-j g l =
    ((f : ℕ → Key) → ((j : ℕ) (k : Key) → j < l.count → goal.F-post g l.key j k → k ≡ f j) → every (l.j - 1) (rises_at f) ≡ true)
    × (l.j - 1 ≤ l.count - 1)
