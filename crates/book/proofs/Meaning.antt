-- What a book is refused for, by meaning: the theorems of specs/Meaning. Assumes nothing.
use mathlib.Core.Path.{◌≡◌, refl, sym, ap, subst, ◌∙◌}
use mathlib.Core.Bool.{Bool, true, false, not, cond, ◌&&◌, ◌||◌, true≢false}
use mathlib.Core.Logic.{inl, inr, ⊎_elim}
use mathlib.Core.List.{List}
use Prim.Native.Nat.{ℕ, zero, suc, ◌+◌, ◌-◌, ◌*◌, ◌≤◌, ◌<◌}
use native.Mathlib.Omega.{arith}
use borrow.Author.Tests.{ltb-true, ltb-false, leb-true, eqb-true, lt-ltb, le-ltb, le-leb, eq-eqb, not-false}
use lib.Dec.{ltb, leb, eqb}
use lib.ListN.{length}
use Rattle.base.specs.Loops.{every}
use Rattle.base.proofs.Arith.{last_or}
use Rattle.base.proofs.Every.{every_one, one_every}
use Rattle.base.proofs.Tests.{and_left, and_right, and_both, or_cases, or_first, or_second, or_left, or_right, or_neither}
use Rattle.frame.specs.Refusals.{lowest_of}
use Rattle.frame.proofs.Lowest.{lowest_of_lem}
use Rattle.book.specs.Layout.{book_length, u32_at, count_in, key_in, grade_in, zero_in}
use Rattle.book.specs.declared.keys.Key.{Key}
use Rattle.book.specs.Promises.{key_before, rises_at, keys_rise, header_wrong, record_held, records_held, book_tests, read_tests, write_tests}
use Rattle.book.specs.Meaning.{Before, Rise, RiseIs, Headed, WellFormed, WellFormedIs, ReadRefusal, ReaderGiven, WriterGiven}
use Rattle.book.specs.Meaning.ReadRefusal.{malformed, unsorted, short, none}
use Rattle.book.proofs.Refusing.{header_right, bad, falls}

-- ---- keys

pub before_true : (a b : Key) → key_before a.panel a.camera b.panel b.camera ≡ true → Before a b
unfolding key_before
before_true a b e = ⊎_elim
    (λ h. inl (ltb-true a.panel b.panel h))
    (λ h. inr (eqb-true a.panel b.panel (and_left (eqb a.panel b.panel) _ h), ltb-true a.camera b.camera (and_right (eqb a.panel b.panel) _ h)))
    (or_cases (ltb a.panel b.panel) (eqb a.panel b.panel && ltb a.camera b.camera) e)

pub true_before : (a b : Key) → Before a b → key_before a.panel a.camera b.panel b.camera ≡ true
unfolding key_before
true_before a b (inl h) = or_first (ltb a.panel b.panel) _ (lt-ltb a.panel b.panel h)
true_before a b (inr h) = or_second (ltb a.panel b.panel) _ (and_both _ _ (eq-eqb a.panel b.panel h.0) (lt-ltb a.camera b.camera h.1))

pub before_trans : (a b d : Key) → Before a b → Before b d → Before a d
before_trans a b d (inl h) (inl k) = inl (omega arith)
before_trans a b d (inl h) (inr k) = inl (omega (arith, k.0))
before_trans a b d (inr h) (inl k) = inl (omega (arith, h.0))
before_trans a b d (inr h) (inr k) = inr (h.0 ∙ k.0, omega (arith, h.1, k.1))

-- from each key to the next, so from each to all that follow
rise_from : (key : ℕ → Key) (n : ℕ) → ((j : ℕ) → j < n - 1 → Before (key j) (key (j + 1))) → Rise key n
rise_from key n h i (suc j) l r = ⊎_elim
    (λ e. subst (λ k. Before (key i) (key k)) (omega arith) (h i (omega arith)))
    (λ k. before_trans (key i) (key j) (key (suc j)) (rise_from key n h i j k (omega arith)) (subst (λ k. Before (key j) (key k)) (omega arith) (h j (omega arith))))
    (last_or i j l)
rise_from key n h i zero l r = absurd (omega arith)

pub rise_is : RiseIs
unfolding keys_rise rises_at
rise_is key n = (
  λ e. rise_from key n (λ j h. before_true (key j) (key (j + 1)) (every_one _ (n - 1) e j h)),
  λ h. one_every _ (n - 1) (λ j k. true_before (key j) (key (j + 1)) (h j (j + 1) (omega arith) (omega arith))),
)

-- ---- header, length, grades and zero fields

right_header : (b : List ℕ) → Headed b → header_wrong b ≡ false
unfolding header_wrong
right_header b w =
    or_neither (ltb (length b) 16) _ (le-ltb (length b) 16 w.headed)
    (or_neither _ _
    (or_neither _ _
    (or_neither _ _ (ap not (eq-eqb (u32_at b 4) 16 w.offset)) (ap not (eq-eqb (u32_at b 8) 120 w.each)))
    (ap not (eq-eqb (u32_at b 12) (book_length (count_in b)) w.total)))
    (ap not (eq-eqb (length b) (u32_at b 12) w.all)))

record_true : (b : List ℕ) (j : ℕ) → record_held b j ≡ true → (grade_in b j ≤ 2) × (zero_in b j ≡ 0)
unfolding record_held
record_true b j e = (leb-true (grade_in b j) 2 (and_left (leb (grade_in b j) 2) _ e), eqb-true (zero_in b j) 0 (and_right (leb (grade_in b j) 2) _ e))

true_record : (b : List ℕ) (j : ℕ) → grade_in b j ≤ 2 → zero_in b j ≡ 0 → record_held b j ≡ true
unfolding record_held
true_record b j h e = and_both (leb (grade_in b j) 2) _ (le-leb (grade_in b j) 2 h) (eq-eqb (zero_in b j) 0 e)

pub well_formed_is : WellFormedIs
unfolding records_held
well_formed_is b = (formed, wrong)
  where
    formed : (header_wrong b || not (every (count_in b) (record_held b))) ≡ false → WellFormed b
    formed e =
        let r : every (count_in b) (record_held b) ≡ true = not-false _ (or_right (header_wrong b) _ e) in
        record {
          header = header_right b (or_left (header_wrong b) _ e);
          grades = λ j k. (record_true b j (every_one (record_held b) (count_in b) r j k)).0;
          zeros = λ j k. (record_true b j (every_one (record_held b) (count_in b) r j k)).1;
        }

    wrong : WellFormed b → (header_wrong b || not (every (count_in b) (record_held b))) ≡ false
    wrong w =
        or_neither (header_wrong b) _ (right_header b w.header)
        (ap not (one_every (record_held b) (count_in b) (λ j k. true_record b j (w.grades j k) (w.zeros j k))))

-- ---- the number given

module _ (b heads numbers : List ℕ) where
  abbrev tight : Bool
  tight = ltb (length heads) (3 * count_in b) || ltb (length numbers) (13 * count_in b)

  given : (s t u : Bool) → bad b ≡ s → falls b ≡ t → tight ≡ u → ReadRefusal b heads numbers (cond s 14 (cond t 15 (cond u 3 0)))
  given true t u e d f = malformed refl (λ w. true≢false (sym e ∙ (well_formed_is b).1 w))
  given false true u e d f = unsorted refl ((well_formed_is b).0 e) (λ r. true≢false (sym d ∙ ap not ((rise_is (key_in b) (count_in b)).1 r)))
  given false false true e d f = short refl ((well_formed_is b).0 e) ((rise_is (key_in b) (count_in b)).0 (not-false _ d)) (⊎_elim
      (λ h. inl (ltb-true (length heads) (3 * count_in b) h))
      (λ h. inr (ltb-true (length numbers) (13 * count_in b) h))
      (or_cases (ltb (length heads) (3 * count_in b)) (ltb (length numbers) (13 * count_in b)) f))
  given false false false e d f = none refl ((well_formed_is b).0 e) ((rise_is (key_in b) (count_in b)).0 (not-false _ d))
      (ltb-false (length heads) (3 * count_in b) (or_left _ _ f))
      (ltb-false (length numbers) (13 * count_in b) (or_right (ltb (length heads) (3 * count_in b)) _ f))

pub reader_given : ReaderGiven
unfolding read_tests book_tests lowest_of
reader_given b heads numbers = given b heads numbers _ _ _ refl refl refl

pub writer_given : WriterGiven
unfolding write_tests
writer_given heads numbers count book = lowest_of_lem 0 _ (omega arith, (omega arith, (omega arith, tt)))
