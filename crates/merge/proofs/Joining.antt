-- What the joined book is, by meaning. Assumes nothing.
use Prim.Native.Nat.{ℕ, ◌+◌, ◌^◌, ◌≤◌, ◌<◌}
use mathlib.Core.Path.{◌≡◌, refl, sym, ap, subst, ◌∙◌}
use mathlib.Core.Bool.{Bool, true, false, not, true≢false}
use mathlib.Core.Logic.{inl, inr, ⊎_elim}
use mathlib.Core.List.{List, []}
use native.Mathlib.Omega.{arith}
use borrow.Author.Tests.{not-false, not-true}
use lib.ListN.{length, get_or}
use Rattle.base.specs.Loops.{every}
use Rattle.base.proofs.Every.{every_one, every_fails}
use Rattle.base.proofs.Members.{In, in_place, place_in}
use Rattle.base.proofs.Tests.{or_first, or_left, or_right, either}
use Rattle.book.specs.Layout.{book_length, count_in, key_in, grade_in, zero_in}
use Rattle.book.specs.Meaning.{Before, Rise, WellFormed}
use Rattle.merge.specs.Merged.{record_in, records, key_of, Accepted, RecordOf, Joined, Differs, HasKey, DifferentKeys, merged, joined_book, size, same_record, same_key, agree, differs}
use Rattle.merge.proofs.Same.{record_same, same_record_lem}
use Rattle.merge.proofs.Keys.{before_other, same_key_lem, key_same, other_key}
use Rattle.merge.proofs.Sorted.{sorted_rise}
use Rattle.merge.proofs.Merging.{Agree, from_either, all_first, all_second, second_keys, sorted_merged}
use Rattle.merge.proofs.Books.{record_long, word_in, key_in_lem, Formed, held, in_records, records_in, sorted_records, formed_records, book_long, book_record, book_count, book_headed}

-- ---- keys that carry the same bytes

-- another key
pub agree_other : (r s : List ℕ) → (key_of r ≡ key_of s → ⊥) → agree r s ≡ true
unfolding agree
agree_other r s h = or_first _ (same_record r s) (ap not (other_key r s h))

-- the same key
pub agree_same : (r s : List ℕ) → key_of r ≡ key_of s → agree r s ≡ same_record r s
unfolding agree
agree_same r s e = rw (key_same r s e)

disagree : (r s : List ℕ) → agree r s ≡ false → (key_of r ≡ key_of s) × (r ≡ s → ⊥)
unfolding agree
disagree r s f = (
  same_key_lem r s (not-false _ (or_left _ (same_record r s) f)),
  λ d. true≢false (sym (record_same r s d) ∙ or_right (not (same_key r s)) (same_record r s) f),
)

-- every record of b agrees with record i of a
abbrev pub row : List ℕ → List ℕ → ℕ → Bool
row a b i = every (count_in b) (λ j. agree (record_in a i) (record_in b j))

module _ (a b : List ℕ) (A : Accepted a) (B : Accepted b) where
  same_bytes : (i j : ℕ) → i < count_in a → j < count_in b → same_record (record_in a i) (record_in b j) ≡ true → record_in a i ≡ record_in b j
  same_bytes i j h k e = same_record_lem (record_in a i) (record_in b j) (record_long a i (held a A i h)) (record_long b j (held b B j k)) e

  key_records : (i j : ℕ) → i < count_in a → j < count_in b → key_in a i ≡ key_in b j → key_of (record_in a i) ≡ key_of (record_in b j)
  key_records i j h k e = sym (key_in_lem a i (held a A i h)) ∙ e ∙ key_in_lem b j (held b B j k)

  pub differs_true : differs a b ≡ true → Differs a b
  unfolding differs
  differs_true e =
      let x = every_fails (row a b) (count_in a) (not-true _ e) in
      let i = x.0 in
      let y = every_fails (λ j. agree (record_in a i) (record_in b j)) (count_in b) x.2 in
      let j = y.0 in
      let d = disagree (record_in a i) (record_in b j) y.2 in
      (i, j, x.1, y.1, key_in_lem a i (held a A i x.1) ∙ d.0 ∙ sym (key_in_lem b j (held b B j y.1)), d.1)

  pub agree_true : differs a b ≡ false → (i j : ℕ) → i < count_in a → j < count_in b → agree (record_in a i) (record_in b j) ≡ true
  unfolding differs
  agree_true e i j h k = every_one _ (count_in b) (every_one (row a b) (count_in a) (not-false _ e) i h) j k

  pub true_differs : Differs a b → differs a b ≡ true
  true_differs (i, j, h, k, e, d) = ⊎_elim (λ t. t) (λ f. absurd (d (same_bytes i j h k (sym (agree_same _ _ (key_records i j h k e)) ∙ agree_true f i j h k)))) (either (differs a b))

  pub agreed : differs a b ≡ false → Agree (records a) (records b)
  agreed e x y h k = go (in_records a x h) (in_records b y k)
    where
      go : RecordOf x a → RecordOf y b → key_of x ≡ key_of y → x ≡ y
      go (i, h, p) (j, k, q) d =
          let u : key_of (record_in a i) ≡ key_of (record_in b j) = ap key_of p ∙ d ∙ ap key_of (sym q) in
          sym p ∙ same_bytes i j h k (sym (agree_same (record_in a i) (record_in b j) u) ∙ agree_true e i j h k) ∙ q

  -- ---- the joined book
  abbrev M : List (List ℕ)
  M = merged (records a) (records b)

  each : (x : List ℕ) → In x M → Formed x
  each x h = ⊎_elim (formed_records a A x) (formed_records b B x) (from_either (records a) (records b) x h)

  long : (x : List ℕ) → In x M → length x ≡ 120
  long x h = (each x h).long

  rise : (i j : ℕ) → i < j → j < length M → Before (key_of (get_or M i [])) (key_of (get_or M j []))
  rise = sorted_rise M [] (sorted_merged (records a) (records b) (sorted_records a A) (sorted_records b B))

  pub joined_long : length (joined_book a b) ≡ book_length (size a b)
  unfolding joined_book size
  joined_long = book_long M long

  pub joined_count : book_length (size a b) < 2 ^ 32 → count_in (joined_book a b) ≡ size a b
  unfolding joined_book size
  joined_count few = book_count M long few

  -- record k of it is entry k of the list
  joined_record : (k : ℕ) → k < size a b → record_in (joined_book a b) k ≡ get_or M k []
  unfolding joined_book size
  joined_record k h = book_record M long k h

  joined_held : (k : ℕ) → k < size a b → book_length (k + 1) ≤ length (joined_book a b)
  joined_held k h = omega (arith, joined_long)

  joined_in : (k : ℕ) → k < size a b → In (record_in (joined_book a b) k) M
  joined_in k h = subst (λ x. In x M) (sym (joined_record k h)) (place_in M [] k (unfold size in h))

  joined_formed : (k : ℕ) → k < size a b → Formed (record_in (joined_book a b) k)
  joined_formed k h = each (record_in (joined_book a b) k) (joined_in k h)

  joined_key : (k : ℕ) → k < size a b → key_in (joined_book a b) k ≡ key_of (get_or M k [])
  joined_key k h = key_in_lem (joined_book a b) k (joined_held k h) ∙ ap key_of (joined_record k h)

  module _ (few : book_length (size a b) < 2 ^ 32) where
    abbrev c : List ℕ
    c = joined_book a b

    inside : (k : ℕ) → k < count_in c → k < size a b
    inside k h = omega (arith, joined_count few)

    grade_in_lem : (k : ℕ) → k < size a b → grade_in c k ≤ 2
    unfolding grade_in
    grade_in_lem k h = subst (λ v. v ≤ 2) (sym (word_in c k (joined_held k h) 8 (omega arith))) (joined_formed k h).grade

    zero_in_lem : (k : ℕ) → k < size a b → zero_in c k ≡ 0
    unfolding zero_in
    zero_in_lem k h = word_in c k (joined_held k h) 12 (omega arith) ∙ (joined_formed k h).zeroed

    formed : WellFormed c
    formed = record {
      header = unfold joined_book in book_headed M long (unfold size in few);
      grades = λ k h. grade_in_lem k (inside k h);
      zeros = λ k h. zero_in_lem k (inside k h);
    }

    rises : Rise (key_in c) (count_in c)
    rises i j l h =
        let k : j < size a b = inside j h in
        let m : i < size a b = omega arith in
        subst (λ x. Before x (key_in c j)) (sym (joined_key i m)) (subst (Before (key_of (get_or M i []))) (sym (joined_key j k)) (rise i j l (unfold size in k)))

    pub joined_accepted : Accepted c
    joined_accepted = record { formed = formed; rises = rises }

    -- a member is a record of it
    member : (x : List ℕ) → In x M → RecordOf x c
    member x h =
        let p = in_place M [] x h in
        let k : p.0 < size a b = unfold size in p.1 in
        (p.0, omega (arith, joined_count few, k), joined_record p.0 k ∙ p.2)

    pub joined_is : Agree (records a) (records b) → Joined a b c
    joined_is g = record {
      accepted = joined_accepted;
      from_either = λ k h. ⊎_elim (λ p. inl (in_records a _ p)) (λ p. inr (in_records b _ p)) (from_either (records a) (records b) _ (joined_in k (inside k h)));
      all_first = λ i h. member (record_in a i) (all_first (records a) (records b) (record_in a i) (records_in a i h));
      all_second = λ j h. member (record_in b j) (all_second (records a) (records b) g (record_in b j) (records_in b j h));
    }

  -- ---- different keys

  has_key : (b x : List ℕ) (B : Accepted b) → RecordOf x b → HasKey b (key_of x)
  has_key b x B (j, h, e) = (j, h, key_in_lem b j (held b B j h) ∙ ap key_of e)

  placed : (x : List ℕ) (y : List ℕ) → In y M → key_of y ≡ key_of x → (k : ℕ) × (k < size a b) × (key_of (get_or M k []) ≡ key_of x)
  unfolding size
  placed x y h e = let p = in_place M [] y h in (p.0, p.1, ap key_of p.2 ∙ e)

  pub different_keys : DifferentKeys a b (size a b)
  unfolding size
  different_keys = record {
    key = λ k. key_of (get_or M k []);
    once = λ k l h r e. before_other _ _ (rise k l h r) e;
    from_either = λ k h. ⊎_elim (λ p. inl (has_key a _ A (in_records a _ p))) (λ p. inr (has_key b _ B (in_records b _ p)))
        (from_either (records a) (records b) (get_or M k []) (place_in M [] k h));
    all_first = λ i h. let p = placed (record_in a i) (record_in a i) (all_first (records a) (records b) (record_in a i) (records_in a i h)) refl in (p.0, p.1, p.2 ∙ sym (key_in_lem a i (held a A i h)));
    all_second = λ j h.
        let y = second_keys (records a) (records b) (record_in b j) (records_in b j h) in
        let p = placed (record_in b j) y.0 y.1 y.2 in (p.0, p.1, p.2 ∙ sym (key_in_lem b j (held b B j h)));
  }
