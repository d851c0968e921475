-- The theorems of specs/Meaning. Assumes nothing.
use Prim.Native.Nat.{ℕ, zero, suc, ◌*◌, ◌^◌, ◌≤◌, ◌<◌}
use mathlib.Core.Path.{◌≡◌, refl, sym, ap, ap₂, subst, ◌∙◌}
use mathlib.Core.Bool.{Bool, true, false, not, cond, ◌||◌, true≢false}
use mathlib.Core.Logic.{inl, inr, ⊎_elim}
use mathlib.Core.List.{List, [], ◌∷◌, ◌++◌, append-nil}
use native.Mathlib.Omega.{arith}
use borrow.Author.Tests.{ltb-true, ltb-false, not-false}
use lib.Dec.{ltb}
use lib.ListN.{length, take, drop}
use lib.Seq.{take_at}
use Rattle.base.specs.Bytes.{AllBelow}
use Rattle.base.specs.Loops.{table}
use Rattle.base.proofs.Arith.{last_or, le_or_lt}
use Rattle.base.proofs.Bytes.{bytes_take}
use Rattle.base.proofs.Members.{In}
use Rattle.base.proofs.Tests.{or_cases, or_left, or_right, either, same_test}
use Rattle.frame.specs.Refusals.{check, number_of, lowest_of, answer_for}
use Rattle.frame.specs.declared.refusals.Refusal.{Refusal}
use Rattle.frame.specs.declared.refusals.Refusal.TheVariants.{AreaShort, BooksDiffer}
use Rattle.frame.proofs.Given.{answer_number}
use Rattle.std.specs.Prelude.{Result, Ok}
use Rattle.book.specs.Layout.{book_length, header, u32_at, count_in, key_in}
use Rattle.book.specs.Promises.{book_tests, read_tests, Reading}
use Rattle.book.specs.Meaning.{Headed, Rise, ReadRefusal}
use Rattle.book.specs.Meaning.ReadRefusal.{malformed, unsorted, short as too_short, none as read}
use Rattle.book.proofs.Meaning.{rise_is, well_formed_is, reader_given}
use Rattle.book.proofs.Refusing.{bad, falls}
use Rattle.book.proofs.Tested.{none_holds, value_given, accepted_by}
use Rattle.book.proofs.ReadsBack.{count_in_lem, headed_in}
use Rattle.book.proofs.WritesBack.{u32_below, writes_back}
use Rattle.merge.specs.Merged.{record_in, records, key_of, Accepted, RecordOf, Joined, Differs, merged, book_of, joined_book, size, differs}
use Rattle.merge.specs.Promises.{both_tests, join_tests, merge_tests, Merging}
use Rattle.merge.specs.Meaning.{DiffersIs, SizeIs, SizeCounts, MergeRefusal, MergeGiven, OneBook, WithItself, WithNone, Exchanged, RoundTrip}
use Rattle.merge.specs.Meaning.MergeRefusal.{first_malformed, first_unsorted, second_malformed, second_unsorted, short, unjoined, none}
use Rattle.merge.proofs.Keys.{before_other, not_before}
use Rattle.merge.proofs.Sorted.{Sorted, one_list}
use Rattle.merge.proofs.Merging.{Agree, merged_nil, merged_both, from_either, all_first, all_second, sorted_merged, length_exchanged, shared_merged}
use Rattle.merge.proofs.Books.{whole, in_records, records_in, length_records, sorted_records, book_again}
use Rattle.merge.proofs.Joining.{differs_true, true_differs, agreed, joined_long, joined_count, joined_accepted, different_keys}
use Rattle.merge.proofs.Refusing.{past}

-- ---- what is refused

pub differs_is : DiffersIs
differs_is a b A B = (differs_true a b A B, true_differs a b A B)

pub size_is : SizeIs
size_is a b A B = different_keys a b A B

pub size_counts : SizeCounts
unfolding size
size_counts a b A B =
    shared_merged (records a) (records b) (sorted_records a A) (sorted_records b B)
    ∙ omega (arith, length_records a, length_records b)

-- the tests one by one
module _ (a b target : List ℕ) where
  abbrev size_ab : ℕ
  size_ab = book_length (size a b)

  accept : (b : List ℕ) → bad b ≡ false → falls b ≡ false → Accepted b
  accept b e d = record { formed = (well_formed_is b).0 e; rises = (rise_is (key_in b) (count_in b)).0 (not-false _ d) }

  fallen : (b : List ℕ) → falls b ≡ true → Rise (key_in b) (count_in b) → ⊥
  fallen b e r = true≢false (sym e ∙ ap not ((rise_is (key_in b) (count_in b)).1 r))

  given : (r s t u v w : Bool) → bad a ≡ r → falls a ≡ s → bad b ≡ t → falls b ≡ u → ltb (length target) size_ab ≡ v
      → (differs a b || ltb 4294967295 size_ab) ≡ w
      → MergeRefusal a b target (cond r 14 (cond s 15 (cond t 14 (cond u 15 (cond v 3 (cond w 18 0))))))
  given true s t u v w er es et eu ev ew = first_malformed refl (λ f. true≢false (sym er ∙ (well_formed_is a).1 f))
  given false true t u v w er es et eu ev ew = first_unsorted refl ((well_formed_is a).0 er) (fallen a es)
  given false false true u v w er es et eu ev ew = second_malformed refl (accept a er es) (λ f. true≢false (sym et ∙ (well_formed_is b).1 f))
  given false false false true v w er es et eu ev ew = second_unsorted refl (accept a er es) ((well_formed_is b).0 et) (fallen b eu)
  given false false false false true w er es et eu ev ew = short refl (accept a er es) (accept b et eu) (ltb-true (length target) size_ab ev)
  given false false false false false true er es et eu ev ew =
      let A = accept a er es in
      let B = accept b et eu in
      unjoined refl A B (ltb-false (length target) size_ab ev)
      (⊎_elim (λ e. inl (differs_true a b A B e)) (λ e. inr (ltb-true 4294967295 size_ab e)) (or_cases (differs a b) (ltb 4294967295 size_ab) ew))
  given false false false false false false er es et eu ev ew =
      let A = accept a er es in
      let B = accept b et eu in
      none refl A B (ltb-false (length target) size_ab ev)
      (λ d. true≢false (sym (true_differs a b A B d) ∙ or_left (differs a b) _ ew))
      (ltb-false 4294967295 size_ab (or_right (differs a b) _ ew))

pub merge_given : MergeGiven
unfolding merge_tests both_tests join_tests book_tests lowest_of
merge_given a b target = given a b target _ _ _ _ _ _ refl refl refl refl refl refl

-- ---- what is joined

-- the records of one joined book are those of another
within : (a b c d : List ℕ) → Joined a b c → Joined a b d → (x : List ℕ) → In x (records c) → In x (records d)
within a b c d J K x h = go (in_records c x h)
  where
    back : RecordOf x d → In x (records d)
    back (k, l, e) = subst (λ y. In y (records d)) e (records_in d k l)

    go : RecordOf x c → In x (records d)
    go (k, l, e) = ⊎_elim
        (λ (i, m, f). back (subst (λ y. RecordOf y d) (f ∙ e) (K.all_first i m)))
        (λ (i, m, f). back (subst (λ y. RecordOf y d) (f ∙ e) (K.all_second i m)))
        (J.from_either k l)

pub one_book : OneBook
one_book a b c d bytes bytes' J K =
    sym (book_again c bytes J.accepted.formed.header)
    ∙ ap book_of (one_list (records c) (records d) (sorted_records c J.accepted) (sorted_records d K.accepted) (within a b c d J K) (within a b d c K J))
    ∙ book_again d bytes' K.accepted.formed.header

-- a call whose joined book is the first
same_book : (a b target target' : List ℕ) (n : Result ℕ Refusal) → AllBelow 256 a → Accepted a → Accepted b → merged (records a) (records b) ≡ records a
    → (Differs a b → ⊥) → length a ≤ length target → Merging a b target target' n → (n ≡ Ok (length a)) × (target' ≡ a ++ drop (length a) target)
same_book a b target target' n bytes A B e d h W =
    let s : size a b ≡ count_in a = unfold size in (ap length e ∙ length_records a) in
    let l : book_length (size a b) ≡ length a = ap book_length s ∙ sym (whole a A) in
    let f : u32_at a 12 < 256 ^ 4 = u32_below a bytes 12 (omega (arith, A.formed.header.headed)) in
    let j : joined_book a b ≡ a = unfold joined_book in (ap book_of e ∙ book_again a bytes A.formed.header) in
    let z = accepted (omega arith) (omega (arith, A.formed.header.all)) in (
      W.given ∙ accepted_by (merge_tests a b target) (book_length (size a b)) z ∙ ap Ok l,
      W.accepted z ∙ ap (λ t. t ++ drop (book_length (size a b)) target) j ∙ ap (λ k. a ++ drop k target) l,
    )
  where
    accepted : book_length (size a b) ≤ length target → book_length (size a b) ≤ 4294967295 → lowest_of (merge_tests a b target) ≡ 0
    accepted r q = go (merge_given a b target)
      where
        go : MergeRefusal a b target (lowest_of (merge_tests a b target)) → lowest_of (merge_tests a b target) ≡ 0
        go (first_malformed m w) = absurd (w A.formed)
        go (first_unsorted m w u) = absurd (u A.rises)
        go (second_malformed m w u) = absurd (u B.formed)
        go (second_unsorted m w v u) = absurd (u B.rises)
        go (short m w v u) = absurd (omega arith)
        go (unjoined m w v u o) = absurd (⊎_elim d (λ x. omega arith) o)
        go (none m w v u o x) = m

merged_self : (l : List (List ℕ)) → merged l l ≡ l
merged_self [] = merged_nil []
merged_self (r ∷ l) =
    let e = not_before r r (λ h. before_other (key_of r) (key_of r) h refl) in
    merged_both r r l l e e ∙ ap (λ m. r ∷ m) (merged_self l)

-- a key of a book stands there once
once : (a : List ℕ) → Accepted a → Differs a a → ⊥
once a A (i, j, h, k, e, d) = ⊎_elim
    (λ l. ⊎_elim (λ q. d (ap (record_in a) q)) (λ q. before_other _ _ (A.rises i j q k) e) (last_or i j (omega arith)))
    (λ l. before_other _ _ (A.rises j i l h) (sym e))
    (le_or_lt i j)

pub with_itself : WithItself
with_itself a target target' n bytes A h W = same_book a a target target' n bytes A A (merged_self (records a)) (once a A) h W

-- the book of no records
none_count : count_in (header 0) ≡ 0
none_count = ap count_in (sym (append-nil (header 0))) ∙ count_in_lem 0 [] (omega arith)

none_accepted : Accepted (header 0)
none_accepted = record {
  formed = record {
    header = subst Headed (append-nil (header 0)) (headed_in 0 [] (omega arith) refl);
    grades = λ j h. absurd (omega (arith, none_count));
    zeros = λ j h. absurd (omega (arith, none_count));
  };
  rises = λ i j l h. absurd (omega (arith, none_count));
}

none_records : records (header 0) ≡ []
unfolding records table
none_records = ap (table (record_in (header 0))) none_count

pub with_none : WithNone
with_none a target target' n bytes A h W =
    same_book a (header 0) target target' n bytes A none_accepted (ap (merged (records a)) none_records ∙ merged_nil (records a))
    (λ (i, j, h, k, e, d). absurd (omega (arith, none_count))) h W

-- ---- exchanged

-- what an acceptance says
record Accepting (a b target : List ℕ) : Type 0 where
  pub first_accepted : Accepted a
  pub second_accepted : Accepted b
  pub agrees : differs a b ≡ false
  pub few : book_length (size a b) ≤ 4294967295

accepting : (a b target : List ℕ) → lowest_of (merge_tests a b target) ≡ 0 → Accepting a b target
accepting a b target z = go (merge_given a b target)
  where
    go : MergeRefusal a b target (lowest_of (merge_tests a b target)) → Accepting a b target
    go (first_malformed m w) = absurd (omega arith)
    go (first_unsorted m w u) = absurd (omega arith)
    go (second_malformed m w u) = absurd (omega arith)
    go (second_unsorted m w v u) = absurd (omega arith)
    go (short m w v u) = absurd (omega arith)
    go (unjoined m w v u o) = absurd (omega arith)
    go (none m A B u d f) = record {
      first_accepted = A;
      second_accepted = B;
      agrees = ⊎_elim (λ e. absurd (d (differs_true a b A B e))) (λ e. e) (either (differs a b));
      few = f;
    }

module _ (a b : List ℕ) (A : Accepted a) (B : Accepted b) where
  turned_about : (a b : List ℕ) → Differs a b → Differs b a
  turned_about a b (i, j, h, k, e, d) = (j, i, k, h, sym e, λ q. d (sym q))

  sizes : size a b ≡ size b a
  unfolding size
  sizes = length_exchanged (records a) (records b)

  both_differ : differs a b ≡ differs b a
  both_differ = same_test (differs a b) (differs b a)
      (λ e. true_differs b a B A (turned_about a b (differs_true a b A B e)))
      (λ e. true_differs a b A B (turned_about b a (differs_true b a B A e)))

  same_answer : (v : ℕ) (target : List ℕ) → answer_for (merge_tests a b target) v ≡ answer_for (merge_tests b a target) v
  same_answer v target = past v a b target A B ∙ tests ∙ sym (past v b a target B A)
    where
      tests : answer_for (join_tests a b target) v ≡ answer_for (join_tests b a target) v
      tests = unfold join_tests in
          ap₂ (λ s d. answer_for (check AreaShort (ltb (length target) (book_length s)) ∷ check BooksDiffer (d || ltb 4294967295 (book_length s)) ∷ []) v) sizes both_differ

  same_number : (target : List ℕ) → lowest_of (merge_tests a b target) ≡ lowest_of (merge_tests b a target)
  same_number target = sym (answer_number 0 (merge_tests a b target)) ∙ ap number_of (same_answer 0 target) ∙ answer_number 0 (merge_tests b a target)

  module _ (e : differs a b ≡ false) where
    same_list : merged (records a) (records b) ≡ merged (records b) (records a)
    same_list = one_list _ _ (sorted_merged _ _ P Q) (sorted_merged _ _ Q P)
        (λ x h. ⊎_elim (all_second (records b) (records a) swapped x) (all_first (records b) (records a) x) (from_either (records a) (records b) x h))
        (λ x h. ⊎_elim (all_second (records a) (records b) agree x) (all_first (records a) (records b) x) (from_either (records b) (records a) x h))
      where
        P : Sorted (records a)
        P = sorted_records a A

        Q : Sorted (records b)
        Q = sorted_records b B

        agree : Agree (records a) (records b)
        agree = agreed a b A B e

        swapped : Agree (records b) (records a)
        swapped x y h k d = sym (agree y x k h (sym d))

    same_joined : joined_book a b ≡ joined_book b a
    unfolding joined_book
    same_joined = ap book_of same_list

pub exchanged : Exchanged
exchanged a b target x y n m A B W X = (
  W.given ∙ same_answer a b A B (book_length (size a b)) target ∙ ap (λ s. answer_for (merge_tests b a target) (book_length s)) (sizes a b A B) ∙ sym X.given,
  go (lowest_of (merge_tests a b target)) refl,
)
  where
    go : (k : ℕ) → lowest_of (merge_tests a b target) ≡ k → x ≡ y
    go zero z =
        W.accepted z
        ∙ ap₂ (λ l s. l ++ drop (book_length s) target) (same_joined a b A B (accepting a b target z).agrees) (sizes a b A B)
        ∙ sym (X.accepted (sym (same_number a b A B target) ∙ z))
    go (suc k) z = W.refused (omega arith) ∙ sym (X.refused (omega (arith, same_number a b A B target)))

-- ---- read and written again

-- the reader accepts an accepted book into lists that can hold it
reads : (c heads numbers : List ℕ) → Accepted c → 3 * count_in c ≤ length heads → 13 * count_in c ≤ length numbers → lowest_of (read_tests c heads numbers) ≡ 0
reads c heads numbers C h k = go (reader_given c heads numbers)
  where
    go : ReadRefusal c heads numbers (lowest_of (read_tests c heads numbers)) → lowest_of (read_tests c heads numbers) ≡ 0
    go (malformed e w) = absurd (w C.formed)
    go (unsorted e w r) = absurd (r C.rises)
    go (too_short e w r s) = absurd (⊎_elim (λ q. omega arith) (λ q. omega arith) s)
    go (read e w r p q) = e

pub round_trip : RoundTrip
round_trip a b target target' n bytes W heads numbers heads' numbers' m h k R area area' w r X =
    let none = none_holds (merge_tests a b target) (book_length (size a b)) (sym W.given) in
    let total : n ≡ book_length (size a b) = value_given (merge_tests a b target) (book_length (size a b)) (sym W.given) in
    let G = accepting a b target none in
    let A = G.first_accepted in
    let B = G.second_accepted in
    let few : book_length (size a b) < 2 ^ 32 = omega (arith, G.few) in
    let c = take n target' in
    let cut : c ≡ joined_book a b =
    ap (λ i. take i target') total ∙ ap (take (book_length (size a b))) (W.accepted none) ∙ take_at (joined_book a b) _ (book_length (size a b)) (joined_long a b A B) in
    let count : count_in c ≡ size a b = ap count_in cut ∙ joined_count a b A B few in
    let long : length c ≡ n = ap length cut ∙ joined_long a b A B ∙ sym total in
    let C : Accepted c = subst Accepted (sym cut) (joined_accepted a b A B few) in
    let z = reads c heads numbers C (omega arith) (omega arith) in
    let e : m ≡ Ok (size a b) = R.given ∙ accepted_by (read_tests c heads numbers) (count_in c) z ∙ ap Ok count in
    let q = writes_back c heads numbers heads' numbers' (size a b) area area' w (bytes_take n target' bytes) (subst (Reading c heads numbers heads' numbers') e R) X (omega arith) in
    (e, q.0 ∙ ap Ok long, q.1 ∙ ap (λ i. c ++ drop i area) long)
