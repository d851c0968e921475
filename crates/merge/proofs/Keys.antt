-- Keys in their order: what the tests and the comparison say. Assumes nothing.
use Prim.Native.Nat.{ℕ, ◌<◌}
use mathlib.Core.Path.{◌≡◌, refl, sym, ap, subst, ◌∙◌}
use mathlib.Core.Bool.{Bool, true, false, true≢false}
use mathlib.Core.Logic.{inl, inr, ⊎_elim}
use mathlib.Core.List.{List}
use native.Mathlib.Omega.{arith}
use borrow.Author.Tests.{eqb-true, eq-eqb}
use lib.Dec.{eqb}
use Rattle.std.proofs.Common.{Ordering, Less, Equal, Greater}
use Rattle.std.proofs.lemmas.Cmp.{ranked}
use Rattle.std.specs.Ordering.{MatchOrdering, nat_cmp, ordering_then}
use Rattle.base.proofs.Arith.{neither_below}
use Rattle.base.proofs.Tests.{and_left, and_right, and_both, either}
use Rattle.book.specs.declared.keys.Key.{Key}
use Rattle.book.specs.Meaning.{Before}
use Rattle.book.proofs.Meaning.{before_true, true_before}
use Rattle.merge.specs.Merged.{key_of, goes_before, same_key}

-- ---- two keys

pub before_once : (x y : Key) → Before x y → Before y x → ⊥
before_once x y (inl h) (inl k) = omega arith
before_once x y (inl h) (inr k) = omega (arith, k.0)
before_once x y (inr h) (inl k) = omega (arith, h.0)
before_once x y (inr h) (inr k) = omega (arith, h.1, k.1)

pub before_other : (x y : Key) → Before x y → x ≡ y → ⊥
before_other x y (inl h) e = let p : x.panel ≡ y.panel = ap (λ z. z.panel) e in omega arith
before_other x y (inr h) e = let p : x.camera ≡ y.camera = ap (λ z. z.camera) e in omega (arith, h.1)

pub key_is : (x y : Key) → x.panel ≡ y.panel → x.camera ≡ y.camera → x ≡ y
key_is x y e d =
    ap (λ p. record { panel = p; camera = x.camera }) e
    ∙ ap (λ c. record { panel = y.panel; camera = c }) d

-- neither goes before the other
pub neither_before : (x y : Key) → (Before x y → ⊥) → (Before y x → ⊥) → x ≡ y
neither_before x y h k =
    let p : x.panel ≡ y.panel = neither_below x.panel y.panel (λ l. h (inl l)) (λ l. k (inl l)) in
    key_is x y p (neither_below x.camera y.camera (λ l. h (inr (p, l))) (λ l. k (inr (sym p, l))))

-- what the derived `cmp` answers
pub compared : (x y : Key) (o : Ordering) → o ≡ ordering_then (nat_cmp x.panel y.panel) (nat_cmp x.camera y.camera) → MatchOrdering o (Before x y) (x ≡ y) (Before y x)
compared x y o e = subst (λ o. MatchOrdering o (Before x y) (x ≡ y) (Before y x)) (sym e)
    (go _ _ (ranked x.panel y.panel _ refl) (ranked x.camera y.camera _ refl))
  where
    go : (s t : Ordering) → MatchOrdering s (x.panel < y.panel) (x.panel ≡ y.panel) (y.panel < x.panel)
        → MatchOrdering t (x.camera < y.camera) (x.camera ≡ y.camera) (y.camera < x.camera) → MatchOrdering (ordering_then s t) (Before x y) (x ≡ y) (Before y x)
    go Less t h k = inl h
    go Greater t h k = inl h
    go Equal Less h k = inr (h, k)
    go Equal Equal h k = key_is x y h k
    go Equal Greater h k = inr (sym h, k)

-- ---- two records

pub goes_before_lem : (r s : List ℕ) → goes_before r s ≡ true → Before (key_of r) (key_of s)
unfolding goes_before
goes_before_lem r s e = before_true (key_of r) (key_of s) e

pub before_goes : (r s : List ℕ) → Before (key_of r) (key_of s) → goes_before r s ≡ true
unfolding goes_before
before_goes r s h = true_before (key_of r) (key_of s) h

pub not_before : (r s : List ℕ) → (Before (key_of r) (key_of s) → ⊥) → goes_before r s ≡ false
not_before r s h = ⊎_elim (λ e. absurd (h (goes_before_lem r s e))) (λ e. e) (either (goes_before r s))

-- one goes before the other, or their keys are the same
pub data Order (r s : List ℕ) : Type 0 where
  less : goes_before r s ≡ true → Order r s
  more : goes_before r s ≡ false → goes_before s r ≡ true → Order r s
  same : goes_before r s ≡ false → goes_before s r ≡ false → key_of r ≡ key_of s → Order r s

pub order : (r s : List ℕ) → Order r s
order r s = go (goes_before r s) (goes_before s r) refl refl
  where
    never : (r s : List ℕ) → goes_before r s ≡ false → Before (key_of r) (key_of s) → ⊥
    never r s e h = true≢false (sym (before_goes r s h) ∙ e)

    go : (t u : Bool) → goes_before r s ≡ t → goes_before s r ≡ u → Order r s
    go true u e d = less e
    go false true e d = more e d
    go false false e d = same e d (neither_before (key_of r) (key_of s) (never r s e) (never s r d))

-- ---- the same key, as a test

pub same_key_lem : (r s : List ℕ) → same_key r s ≡ true → key_of r ≡ key_of s
unfolding same_key
same_key_lem r s e =
    let x = key_of r in
    let y = key_of s in
    key_is x y (eqb-true x.panel y.panel (and_left _ _ e)) (eqb-true x.camera y.camera (and_right (eqb x.panel y.panel) _ e))

pub key_same : (r s : List ℕ) → key_of r ≡ key_of s → same_key r s ≡ true
unfolding same_key
key_same r s e =
    let x = key_of r in
    let y = key_of s in
    and_both _ _ (eq-eqb x.panel y.panel (ap (λ z. z.panel) e)) (eq-eqb x.camera y.camera (ap (λ z. z.camera) e))

pub other_key : (r s : List ℕ) → (key_of r ≡ key_of s → ⊥) → same_key r s ≡ false
other_key r s h = ⊎_elim (λ e. absurd (h (same_key_lem r s e))) (λ e. e) (either (same_key r s))
