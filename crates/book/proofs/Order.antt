-- Keys as the code compares them. Assumes nothing.
use mathlib.Core.Bool.{Bool, true, false, cond, ◌&&◌, ◌||◌}
use mathlib.Core.Path.{◌≡◌, refl, ap, ap₂, ◌∙◌}
use native.Mathlib.Omega.{arith}
use Prim.Native.Nat.{ℕ, ◌+◌, ◌-◌, ◌≤◌}
use Rattle.std.proofs.Common.{Ordering, Less, Equal, Greater}
use Rattle.std.specs.Ordering.{nat_cmp, is_some_and, is_lt, partial_ordering_then}
use Rattle.std.specs.Prelude.{Option, Some}
use Rattle.book.specs.Promises.{key_before, rises_at}
use Rattle.book.specs.declared.keys.Key.{Key}

-- what the derived `partial_cmp` answers
abbrev pub compared : Key → Key → Option Ordering
compared a b = partial_ordering_then (Some (nat_cmp a.panel b.panel)) (Some (nat_cmp a.camera b.camera))

-- the derived `<`
pub below : (a b : Key) → is_some_and is_lt (compared a b) ≡ key_before a.panel a.camera b.panel b.camera
unfolding key_before
below a b = go _ _ _ _
  where
    go : (s t u v : Bool) → is_some_and is_lt (partial_ordering_then (Some (cond s Less (cond t Equal Greater))) (Some (cond u Less (cond v Equal Greater)))) ≡ (s || (t && u))
    go true t u v = refl
    go false false u v = refl
    go false true true v = refl
    go false true false true = refl
    go false true false false = refl

-- .. of two keys, one after the other
pub below_next : (f : ℕ → Key) (a b : Key) (j : ℕ) → 1 ≤ j → a ≡ f (j - 1) → b ≡ f j → is_some_and is_lt (compared a b) ≡ rises_at f (j - 1)
unfolding rises_at
below_next f a b j h e d =
    let q : j ≡ j - 1 + 1 = omega arith in
    below a b ∙ ap₂ (λ x y. key_before x.panel x.camera y.panel y.camera) e (d ∙ ap f q)
