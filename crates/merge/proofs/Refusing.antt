-- What a call is refused for, test by test. Assumes nothing.
use Prim.Native.Nat.{ℕ, ◌≤◌, ◌<◌}
use mathlib.Core.Path.{◌≡◌, refl, sym, ap, ◌∙◌}
use mathlib.Core.Bool.{Bool, true, false, not, ◌||◌}
use mathlib.Core.Logic.{inl, inr}
use mathlib.Core.List.{List, [], ◌∷◌, ◌++◌}
use native.Mathlib.Omega.{arith}
use borrow.Author.Tests.{lt-ltb, le-ltb, not-false}
use lib.Dec.{ltb}
use lib.ListN.{length}
use Rattle.std.specs.Prelude.{Result, Ok, Err}
use Rattle.base.proofs.Tests.{fails}
use Rattle.frame.specs.Refusals.{check, answer_for}
use Rattle.frame.specs.declared.refusals.Refusal.{Refusal}
use Rattle.frame.specs.declared.refusals.Refusal.TheVariants.{AreaShort, Malformed, KeysFall, BooksDiffer}
use Rattle.frame.proofs.Given.{answer_first, answer_next, answer_none}
use Rattle.frame.proofs.Lowest.{Rising, none_tested}
use Rattle.book.specs.Layout.{book_length, count_in, key_in}
use Rattle.book.specs.Promises.{book_tests}
use Rattle.book.proofs.Meaning.{rise_is, well_formed_is}
use Rattle.book.proofs.Refusing.{bad, falls}
use Rattle.book.proofs.Tested.{none_holds, refused_before, accepted_before, refused_as}
use Rattle.merge.specs.Merged.{Accepted, size, differs}
use Rattle.merge.specs.Promises.{both_tests, join_tests, merge_tests}

-- ---- a book by itself

pub book_rising : (b : List ℕ) → Rising 0 (book_tests b)
unfolding book_tests
book_rising b = (omega arith, (omega arith, tt))

pub accepted_book : (b : List ℕ) {n : ℕ} → Ok n ≡ answer_for (book_tests b) (count_in b) → Accepted b
unfolding book_tests
accepted_book b e =
    let none = none_tested (book_tests b) (book_rising b) (none_holds (book_tests b) (count_in b) (sym e)) in
    record {
      formed = (well_formed_is b).0 (fails (bad b) (λ t. none 14 (inl (refl, t))));
      rises = (rise_is (key_in b) (count_in b)).0 (not-false _ (fails (falls b) (λ t. none 15 (inr (inl (refl, t))))));
    }

pub book_accepted : {A : Type 0} (v : A) (b : List ℕ) → Accepted b → answer_for (book_tests b) v ≡ Ok v
unfolding book_tests
book_accepted v b A =
    sym (answer_next v Malformed (bad b) (check KeysFall (falls b) ∷ []) ((well_formed_is b).1 A.formed)
    (answer_next v KeysFall (falls b) [] (ap not ((rise_is (key_in b) (count_in b)).1 A.rises)) (answer_none v)))

-- ---- a call

module _ {T : Type 0} (v : T) (a b target : List ℕ) where
  pub first_gives : {r : Refusal} → Err r ≡ answer_for (book_tests a) (count_in a) → Err r ≡ answer_for (merge_tests a b target) v
  unfolding merge_tests both_tests
  first_gives e =
      sym (refused_before (book_tests a ++ book_tests b) (join_tests a b target) v v
      (refused_before (book_tests a) (book_tests b) (count_in a) v (sym e)))

  module _ (A : Accepted a) where
    pub second_gives : {r : Refusal} → Err r ≡ answer_for (book_tests b) (count_in b) → Err r ≡ answer_for (merge_tests a b target) v
    unfolding merge_tests both_tests
    second_gives e =
        sym (refused_before (book_tests a ++ book_tests b) (join_tests a b target) v v
        (accepted_before (book_tests a) (book_tests b) v v (book_accepted v a A) ∙ refused_as (book_tests b) (count_in b) v (sym e)))

    module _ (B : Accepted b) where
      pub past : answer_for (merge_tests a b target) v ≡ answer_for (join_tests a b target) v
      unfolding merge_tests both_tests
      past =
          accepted_before (book_tests a ++ book_tests b) (join_tests a b target) v v
          (accepted_before (book_tests a) (book_tests b) v v (book_accepted v a A) ∙ book_accepted v b B)

      abbrev short : Bool
      short = ltb (length target) (book_length (size a b))

      abbrev unjoined : Bool
      unjoined = differs a b || ltb 4294967295 (book_length (size a b))

      pub short_gives : length target < book_length (size a b) → Err AreaShort ≡ answer_for (merge_tests a b target) v
      unfolding join_tests
      short_gives h = answer_first v AreaShort short (check BooksDiffer unjoined ∷ []) (lt-ltb (length target) (book_length (size a b)) h) ∙ sym past

      module _ (h : book_length (size a b) ≤ length target) where
        long : {x : Result T Refusal} → x ≡ answer_for (check BooksDiffer unjoined ∷ []) v → x ≡ answer_for (merge_tests a b target) v
        unfolding join_tests
        long e = answer_next v AreaShort short (check BooksDiffer unjoined ∷ []) (le-ltb (length target) (book_length (size a b)) h) e ∙ sym past

        pub unjoined_gives : unjoined ≡ true → Err BooksDiffer ≡ answer_for (merge_tests a b target) v
        unjoined_gives e = long (answer_first v BooksDiffer unjoined [] e)

        pub none_gives : unjoined ≡ false → Ok v ≡ answer_for (merge_tests a b target) v
        none_gives e = long (answer_next v BooksDiffer unjoined [] e (answer_none v))
