-- Laws of `merged`. Each is shown along the merge: one list ends, or a key goes before the other, or both have it. Assumes
-- nothing.
use Prim.Native.Nat.{ℕ, suc, ◌+◌, ◌≤◌}
use mathlib.Core.Path.{◌≡◌, refl, sym, ap, subst, ◌∙◌}
use mathlib.Core.Bool.{true, false, cond, ◌||◌}
use mathlib.Core.Logic.{◌⊎◌, inl, inr, ⊎_elim}
use mathlib.Core.List.{List, [], ◌∷◌}
use native.Mathlib.Omega.{arith}
use lib.ListN.{length}
use Rattle.base.proofs.Members.{In}
use Rattle.base.proofs.Tests.{or_neither}
use Rattle.book.specs.Meaning.{Before}
use Rattle.book.proofs.Meaning.{before_trans}
use Rattle.merge.specs.Merged.{key_of, goes_before, merged, same_key}
use Rattle.merge.specs.Meaning.{has_key, shared_keys}
use Rattle.merge.proofs.Keys.{before_once, before_other, goes_before_lem, before_goes, not_before, key_same, other_key, Order, order}
use Rattle.merge.proofs.Keys.Order.{less, more, same}
use Rattle.merge.proofs.Sorted.{Above, Sorted}

-- ---- a step

pub merged_none : (m : List (List ℕ)) → merged [] m ≡ m
unfolding merged
merged_none m = refl

pub merged_nil : (l : List (List ℕ)) → merged l [] ≡ l
unfolding merged
merged_nil [] = refl
merged_nil (r ∷ l) = refl

module _ (r s : List ℕ) (l m : List (List ℕ)) where
  pub merged_first : goes_before r s ≡ true → merged (r ∷ l) (s ∷ m) ≡ r ∷ merged l (s ∷ m)
  unfolding merged
  merged_first e = rw e

  pub merged_second : goes_before r s ≡ false → goes_before s r ≡ true → merged (r ∷ l) (s ∷ m) ≡ s ∷ merged (r ∷ l) m
  unfolding merged
  merged_second e d =
      ap (λ t. cond t (r ∷ merged l (s ∷ m)) (cond (goes_before s r) (s ∷ merged (r ∷ l) m) (r ∷ merged l m))) e
      ∙ ap (λ t. cond t (s ∷ merged (r ∷ l) m) (r ∷ merged l m)) d

  pub merged_both : goes_before r s ≡ false → goes_before s r ≡ false → merged (r ∷ l) (s ∷ m) ≡ r ∷ merged l m
  unfolding merged
  merged_both e d =
      ap (λ t. cond t (r ∷ merged l (s ∷ m)) (cond (goes_before s r) (s ∷ merged (r ∷ l) m) (r ∷ merged l m))) e
      ∙ ap (λ t. cond t (s ∷ merged (r ∷ l) m) (r ∷ merged l m)) d

-- ---- along the merge: P l m n, where n is l and m merged

module _ (P : List (List ℕ) → List (List ℕ) → List (List ℕ) → Type 0)
    (no_first : (m : List (List ℕ)) → P [] m m)
    (no_second : (r : List ℕ) (l : List (List ℕ)) → P (r ∷ l) [] (r ∷ l))
    (first : (r s : List ℕ) (l m n : List (List ℕ)) → Before (key_of r) (key_of s) → P l (s ∷ m) n → P (r ∷ l) (s ∷ m) (r ∷ n))
    (second : (r s : List ℕ) (l m n : List (List ℕ)) → Before (key_of s) (key_of r) → P (r ∷ l) m n → P (r ∷ l) (s ∷ m) (s ∷ n))
    (both : (r s : List ℕ) (l m n : List (List ℕ)) → key_of r ≡ key_of s → P l m n → P (r ∷ l) (s ∷ m) (r ∷ n)) where
  along_step : (r s : List ℕ) (l m : List (List ℕ)) → Order r s → P l (s ∷ m) (merged l (s ∷ m)) → P (r ∷ l) m (merged (r ∷ l) m) → P l m (merged l m)
      → P (r ∷ l) (s ∷ m) (merged (r ∷ l) (s ∷ m))
  along_step r s l m (less e) p q t = subst (P (r ∷ l) (s ∷ m)) (sym (merged_first r s l m e)) (first r s l m (merged l (s ∷ m)) (goes_before_lem r s e) p)
  along_step r s l m (more e d) p q t = subst (P (r ∷ l) (s ∷ m)) (sym (merged_second r s l m e d)) (second r s l m (merged (r ∷ l) m) (goes_before_lem s r d) q)
  along_step r s l m (same e d k) p q t = subst (P (r ∷ l) (s ∷ m)) (sym (merged_both r s l m e d)) (both r s l m (merged l m) k t)

  pub along : (l m : List (List ℕ)) → P l m (merged l m)
  unfolding merged
  along [] m = no_first m
  along (r ∷ l) [] = no_second r l
  along (r ∷ l) (s ∷ m) = along_step r s l m (order r s) (along l (s ∷ m)) (along (r ∷ l) m) (along l m)

-- ---- members

-- of either, and of no other
abbrev Either : List (List ℕ) → List (List ℕ) → List (List ℕ) → Type 0
Either l m n = (x : List ℕ) → In x n → In x l ⊎ In x m

either_first : (r s : List ℕ) (l m n : List (List ℕ)) → Either l (s ∷ m) n → Either (r ∷ l) (s ∷ m) (r ∷ n)
either_first r s l m n p x (inl e) = inl (inl e)
either_first r s l m n p x (inr h) = ⊎_elim (λ k. inl (inr k)) inr (p x h)

either_second : (r s : List ℕ) (l m n : List (List ℕ)) → Either (r ∷ l) m n → Either (r ∷ l) (s ∷ m) (s ∷ n)
either_second r s l m n p x (inl e) = inr (inl e)
either_second r s l m n p x (inr h) = ⊎_elim inl (λ k. inr (inr k)) (p x h)

either_both : (r s : List ℕ) (l m n : List (List ℕ)) → Either l m n → Either (r ∷ l) (s ∷ m) (r ∷ n)
either_both r s l m n p x (inl e) = inl (inl e)
either_both r s l m n p x (inr h) = ⊎_elim (λ k. inl (inr k)) (λ k. inr (inr k)) (p x h)

pub from_either : (l m : List (List ℕ)) (x : List ℕ) → In x (merged l m) → In x l ⊎ In x m
from_either = along Either (λ m x h. inr h) (λ r l x h. inl h)
    (λ r s l m n b p. either_first r s l m n p)
    (λ r s l m n b p. either_second r s l m n p)
    (λ r s l m n e p. either_both r s l m n p)

-- every one of the first
abbrev Firsts : List (List ℕ) → List (List ℕ) → List (List ℕ) → Type 0
Firsts l m n = (x : List ℕ) → In x l → In x n

firsts_next : (r : List ℕ) (l m n : List (List ℕ)) → Firsts l m n → Firsts (r ∷ l) m (r ∷ n)
firsts_next r l m n p x (inl e) = inl e
firsts_next r l m n p x (inr h) = inr (p x h)

pub all_first : (l m : List (List ℕ)) (x : List ℕ) → In x l → In x (merged l m)
all_first = along Firsts (λ m x h. absurd h) (λ r l x h. h)
    (λ r s l m n b p. firsts_next r l (s ∷ m) n p)
    (λ r s l m n b p x h. inr (p x h))
    (λ r s l m n e p. firsts_next r l (s ∷ m) n p)

-- .. and of the second, where a shared key has one record
abbrev pub Agree : List (List ℕ) → List (List ℕ) → Type 0
Agree l m = (x y : List ℕ) → In x l → In y m → key_of x ≡ key_of y → x ≡ y

abbrev Seconds : List (List ℕ) → List (List ℕ) → List (List ℕ) → Type 0
Seconds l m n = Agree l m → (x : List ℕ) → In x m → In x n

seconds_next : (r s : List ℕ) (l m n : List (List ℕ)) → Seconds (r ∷ l) m n → Seconds (r ∷ l) (s ∷ m) (s ∷ n)
seconds_next r s l m n p g x (inl e) = inl e
seconds_next r s l m n p g x (inr h) = inr (p (λ y z i j. g y z i (inr j)) x h)

seconds_both : (r s : List ℕ) (l m n : List (List ℕ)) → key_of r ≡ key_of s → Seconds l m n → Seconds (r ∷ l) (s ∷ m) (r ∷ n)
seconds_both r s l m n k p g x (inl e) = inl (e ∙ sym (g r s (inl refl) (inl refl) k))
seconds_both r s l m n k p g x (inr h) = inr (p (λ y z i j. g y z (inr i) (inr j)) x h)

pub all_second : (l m : List (List ℕ)) → Agree l m → (x : List ℕ) → In x m → In x (merged l m)
all_second = along Seconds (λ m g x h. h) (λ r l g x h. absurd h)
    (λ r s l m n b p g x h. inr (p (λ y z i j. g y z (inr i) j) x h))
    (λ r s l m n b p. seconds_next r s l m n p)
    (λ r s l m n e p. seconds_both r s l m n e p)

-- .. and its key in any case
abbrev SecondKeys : List (List ℕ) → List (List ℕ) → List (List ℕ) → Type 0
SecondKeys l m n = (x : List ℕ) → In x m → (y : List ℕ) × In y n × (key_of y ≡ key_of x)

keys_more : (r x : List ℕ) (n : List (List ℕ)) → ((y : List ℕ) × In y n × (key_of y ≡ key_of x)) → (y : List ℕ) × In y (r ∷ n) × (key_of y ≡ key_of x)
keys_more r x n t = (t.0, inr t.1, t.2)

keys_second : (r s : List ℕ) (l m n : List (List ℕ)) → SecondKeys (r ∷ l) m n → SecondKeys (r ∷ l) (s ∷ m) (s ∷ n)
keys_second r s l m n p x (inl e) = (s, inl refl, ap key_of (sym e))
keys_second r s l m n p x (inr h) = keys_more s x n (p x h)

keys_both : (r s : List ℕ) (l m n : List (List ℕ)) → key_of r ≡ key_of s → SecondKeys l m n → SecondKeys (r ∷ l) (s ∷ m) (r ∷ n)
keys_both r s l m n k p x (inl e) = (r, inl refl, k ∙ ap key_of (sym e))
keys_both r s l m n k p x (inr h) = keys_more r x n (p x h)

pub second_keys : (l m : List (List ℕ)) (x : List ℕ) → In x m → (y : List ℕ) × In y (merged l m) × (key_of y ≡ key_of x)
second_keys = along SecondKeys (λ m x h. (x, h, refl)) (λ r l x h. absurd h)
    (λ r s l m n b p x h. keys_more r x n (p x h))
    (λ r s l m n b p. keys_second r s l m n p)
    (λ r s l m n e p. keys_both r s l m n e p)

-- ---- the keys rise

abbrev Rises : List (List ℕ) → List (List ℕ) → List (List ℕ) → Type 0
Rises l m n = Sorted l → Sorted m → Sorted n × Either l m n

above_head : (r s : List ℕ) (m : List (List ℕ)) → Before (key_of r) (key_of s) → Above s m → Above r (s ∷ m)
above_head r s m b p x (inl e) = subst (λ y. Before (key_of r) (key_of y)) (sym e) b
above_head r s m b p x (inr h) = before_trans (key_of r) (key_of s) (key_of x) b (p x h)

above_either : (r : List ℕ) (l m n : List (List ℕ)) → Above r l → Above r m → Either l m n → Above r n
above_either r l m n p q t x h = ⊎_elim (p x) (q x) (t x h)

rises_first : (r s : List ℕ) (l m n : List (List ℕ)) → Before (key_of r) (key_of s) → Rises l (s ∷ m) n → Rises (r ∷ l) (s ∷ m) (r ∷ n)
rises_first r s l m n b p c d =
    let t = p c.1 d in
    ((above_either r l (s ∷ m) n c.0 (above_head r s m b d.0) t.1, t.0), either_first r s l m n t.1)

rises_second : (r s : List ℕ) (l m n : List (List ℕ)) → Before (key_of s) (key_of r) → Rises (r ∷ l) m n → Rises (r ∷ l) (s ∷ m) (s ∷ n)
rises_second r s l m n b p c d =
    let t = p c d.1 in
    ((above_either s (r ∷ l) m n (above_head s r l b c.0) d.0 t.1, t.0), either_second r s l m n t.1)

rises_both : (r s : List ℕ) (l m n : List (List ℕ)) → key_of r ≡ key_of s → Rises l m n → Rises (r ∷ l) (s ∷ m) (r ∷ n)
rises_both r s l m n k p c d =
    let t = p c.1 d.1 in
    let q : Above r m = λ x h. subst (λ y. Before y (key_of x)) (sym k) (d.0 x h) in
    ((above_either r l m n c.0 q t.1, t.0), either_both r s l m n t.1)

pub sorted_merged : (l m : List (List ℕ)) → Sorted l → Sorted m → Sorted (merged l m)
sorted_merged l m c d = (along Rises (λ m c d. (d, λ x h. inr h)) (λ r l c d. (c, λ x h. inl h)) rises_first rises_second rises_both l m c d).0

-- ---- how many there are

pub length_merged : (l m : List (List ℕ)) → length (merged l m) ≤ length l + length m
length_merged = along (λ l m n. length n ≤ length l + length m) (λ m. omega arith) (λ r l. omega arith)
    (λ r s l m n b p. omega arith)
    (λ r s l m n b p. omega arith)
    (λ r s l m n e p. omega arith)

-- as many, whichever is the first
pub length_exchanged : (l m : List (List ℕ)) → length (merged l m) ≡ length (merged m l)
length_exchanged = along (λ l m n. length n ≡ length (merged m l)) (λ m. ap length (sym (merged_nil m))) (λ r l. unfold merged in refl)
    (λ r s l m n b p. ap (λ k. suc k) p ∙ sym (ap length (merged_second s r m l (not_before s r (before_once (key_of r) (key_of s) b)) (before_goes r s b))))
    (λ r s l m n b p. ap (λ k. suc k) p ∙ sym (ap length (merged_first s r m l (before_goes s r b))))
    (λ r s l m n e p. ap (λ k. suc k) p
    ∙ sym (ap length (merged_both s r m l (not_before s r (λ h. before_other (key_of s) (key_of r) h (sym e))) (not_before r s (λ h. before_other (key_of r) (key_of s) h e)))))

-- ---- the shared keys

has_other : (r : List ℕ) (m : List (List ℕ)) → ((x : List ℕ) → In x m → key_of r ≡ key_of x → ⊥) → has_key r m ≡ false
unfolding has_key
has_other r [] h = refl
has_other r (s ∷ m) h = or_neither (same_key r s) (has_key r m) (other_key r s (h s (inl refl))) (has_other r m (λ x k. h x (inr k)))

shared_none : (l : List (List ℕ)) → shared_keys l [] ≡ 0
unfolding shared_keys has_key
shared_none [] = refl
shared_none (r ∷ l) = omega (arith, shared_none l)

-- a record that none of l shares its key with
shared_past : (s : List ℕ) (l m : List (List ℕ)) → ((x : List ℕ) → In x l → key_of x ≡ key_of s → ⊥) → shared_keys l (s ∷ m) ≡ shared_keys l m
unfolding shared_keys has_key
shared_past s [] m h = refl
shared_past s (r ∷ l) m h =
    ap (λ t. cond (t || has_key r m) 1 0 + shared_keys l (s ∷ m)) (other_key r s (h r (inl refl)))
    ∙ ap (λ n. cond (has_key r m) 1 0 + n) (shared_past s l m (λ x k. h x (inr k)))

above_other : (r : List ℕ) (l : List (List ℕ)) → Above r l → (x : List ℕ) → In x l → key_of r ≡ key_of x → ⊥
above_other r l p x h e = before_other (key_of r) (key_of x) (p x h) e

abbrev Shares : List (List ℕ) → List (List ℕ) → List (List ℕ) → Type 0
Shares l m n = Sorted l → Sorted m → length n + shared_keys l m ≡ length l + length m

shares_first : (r s : List ℕ) (l m n : List (List ℕ)) → Before (key_of r) (key_of s) → Shares l (s ∷ m) n → Shares (r ∷ l) (s ∷ m) (r ∷ n)
unfolding shared_keys
shares_first r s l m n b p c d =
    let e : has_key r (s ∷ m) ≡ false = has_other r (s ∷ m) (above_other r (s ∷ m) (above_head r s m b d.0)) in
    ap (λ t. suc (length n) + (cond t 1 0 + shared_keys l (s ∷ m))) e ∙ omega (arith, p c.1 d)

shares_second : (r s : List ℕ) (l m n : List (List ℕ)) → Before (key_of s) (key_of r) → Shares (r ∷ l) m n → Shares (r ∷ l) (s ∷ m) (s ∷ n)
shares_second r s l m n b p c d =
    let e = shared_past s (r ∷ l) m (λ x h k. above_other s (r ∷ l) (above_head s r l b c.0) x h (sym k)) in
    omega (arith, e, p c d.1)

shares_both : (r s : List ℕ) (l m n : List (List ℕ)) → key_of r ≡ key_of s → Shares l m n → Shares (r ∷ l) (s ∷ m) (r ∷ n)
unfolding shared_keys has_key
shares_both r s l m n k p c d =
    let e = shared_past s l m (λ x h q. above_other r l c.0 x h (k ∙ sym q)) in
    ap (λ t. suc (length n) + (cond (t || has_key r m) 1 0 + shared_keys l (s ∷ m))) (key_same r s k) ∙ omega (arith, e, p c.1 d.1)

pub shared_merged : (l m : List (List ℕ)) → Sorted l → Sorted m → length (merged l m) + shared_keys l m ≡ length l + length m
shared_merged = along Shares (λ m c d. unfold shared_keys in omega arith) (λ r l c d. omega (arith, shared_none (r ∷ l))) shares_first shares_second shares_both
