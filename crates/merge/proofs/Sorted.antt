-- Lists of records whose keys rise: there is one such list of given members. Assumes nothing.
use Prim.Native.Nat.{ℕ, zero, suc, ◌<◌}
use mathlib.Core.Path.{◌≡◌, refl, sym, ap, ap₂, subst, ◌∙◌}
use mathlib.Core.Logic.{inl, inr}
use mathlib.Core.List.{List, [], ◌∷◌}
use native.Mathlib.Omega.{arith}
use lib.ListN.{length, get_or}
use Rattle.base.specs.Loops.{table}
use Rattle.base.proofs.Members.{In, place_in, in_table}
use Rattle.book.specs.Meaning.{Before}
use Rattle.merge.specs.Merged.{key_of}
use Rattle.merge.proofs.Keys.{before_once, before_other}

-- every key of l is above that of r
abbrev pub Above : List ℕ → List (List ℕ) → Type 0
Above r l = (x : List ℕ) → In x l → Before (key_of r) (key_of x)

abbrev pub Sorted : List (List ℕ) → Type 0
Sorted [] = Unit {0}
Sorted (r ∷ l) = Above r l × Sorted l

pub sorted_table : (f : ℕ → List ℕ) (n : ℕ) → ((i j : ℕ) → i < j → j < n → Before (key_of (f i)) (key_of (f j))) → Sorted (table f n)
unfolding table
sorted_table f zero h = tt
sorted_table f (suc n) h = (
  λ x k. let r = in_table (λ i. f (suc i)) n x k in subst (λ y. Before (key_of (f 0)) (key_of y)) r.2 (h 0 (suc r.0) (omega arith) (omega (arith, r.1))),
  sorted_table (λ i. f (suc i)) n (λ i j l k. h (suc i) (suc j) (omega arith) (omega arith)),
)

pub sorted_rise : (l : List (List ℕ)) (d : List ℕ) → Sorted l → (i j : ℕ) → i < j → j < length l → Before (key_of (get_or l i d)) (key_of (get_or l j d))
sorted_rise [] d s i j h k = absurd (omega arith)
sorted_rise (r ∷ l) d s zero zero h k = absurd (omega arith)
sorted_rise (r ∷ l) d s zero (suc j) h k = s.0 (get_or l j d) (place_in l d j (omega arith))
sorted_rise (r ∷ l) d s (suc i) zero h k = absurd (omega arith)
sorted_rise (r ∷ l) d s (suc i) (suc j) h k = sorted_rise l d s.1 i j (omega arith) (omega arith)

-- two lists with rising keys and the same members are one
abbrev Within : List (List ℕ) → List (List ℕ) → Type 0
Within l m = (x : List ℕ) → In x l → In x m

same_head : (r s : List ℕ) (l m : List (List ℕ)) → Above r l → Above s m → In r (s ∷ m) → In s (r ∷ l) → r ≡ s
same_head r s l m p q (inl e) h = e
same_head r s l m p q (inr k) (inl e) = sym e
same_head r s l m p q (inr k) (inr h) = absurd (before_once (key_of r) (key_of s) (p s h) (q r k))

-- what is above r is not r
behind : (r s : List ℕ) (l m : List (List ℕ)) → Above r l → r ≡ s → Within (r ∷ l) (s ∷ m) → Within l m
behind r s l m p e w x h = go (w x (inr h))
  where
    go : In x (s ∷ m) → In x m
    go (inl d) = absurd (before_other (key_of r) (key_of x) (p x h) (ap key_of (e ∙ sym d)))
    go (inr k) = k

pub one_list : (l m : List (List ℕ)) → Sorted l → Sorted m → Within l m → Within m l → l ≡ m
one_list [] [] s t v w = refl
one_list [] (y ∷ m) s t v w = absurd (w y (inl refl))
one_list (x ∷ l) [] s t v w = absurd (v x (inl refl))
one_list (x ∷ l) (y ∷ m) s t v w =
    let e : x ≡ y = same_head x y l m s.0 t.0 (v x (inl refl)) (w y (inl refl)) in
    ap₂ ◌∷◌ e (one_list l m s.1 t.1 (behind x y l m s.0 e v) (behind y x m l t.0 (sym e) w))
