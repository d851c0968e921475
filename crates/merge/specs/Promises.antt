-- What `merge_books` does (requirements, 28). Assumes nothing.
use Rattle.std.specs.Prelude.{ℕ, ◌≤◌, ◌≡◌, ◌||◌, List, [], ◌∷◌, ◌++◌, ltb, length, take, drop, Result}
use Rattle.frame.specs.Refusals.{Check, check, lowest_of, answer_for}
use Rattle.frame.specs.declared.refusals.Refusal.{Refusal}
use Rattle.frame.specs.declared.refusals.Refusal.TheVariants.{AreaShort, BooksDiffer}
use Rattle.book.specs.Layout.{book_length}
use Rattle.book.specs.Promises.{book_tests}
use Rattle.merge.specs.Merged.{Joined, joined_book, size, differs}

-- [28.7] "14 and 15 have been tried on the first book and then the second"
unfoldable pub both_tests : List ℕ → List ℕ → List Check
both_tests a b = book_tests a ++ book_tests b

-- [28.8] "the target area, if shorter than the joined book, gives 3"; [28.5, 28.6] 18
unfoldable pub join_tests : List ℕ → List ℕ → List ℕ → List Check
join_tests a b target =
    check AreaShort (ltb (length target) (book_length (size a b)))
    ∷ check BooksDiffer (differs a b || ltb 4294967295 (book_length (size a b)))
    ∷ []

-- [28.7] "after 14 and 15 .."; [28.8] "3 before 18". The numbers do not rise: the first test that holds is given, and
-- not the lowest number
unfoldable pub merge_tests : List ℕ → List ℕ → List ℕ → List Check
merge_tests a b target = both_tests a b ++ join_tests a b target

-- the target becomes target', and the answer is n
pub record Merging (a b target target' : List ℕ) (n : Result ℕ Refusal) : Type 0 where
  pub given : n ≡ answer_for (merge_tests a b target) (book_length (size a b))
  -- [28.1] by equation; [17.6] a longer target keeps its rest
  pub accepted : lowest_of (merge_tests a b target) ≡ 0
      → target' ≡ joined_book a b ++ drop (book_length (size a b)) target
  -- [28.2, 28.3, 28.4] by meaning
  pub means : lowest_of (merge_tests a b target) ≡ 0 → Joined a b (take (book_length (size a b)) target')
  -- [28.9] "the target is untouched in all of these"
  pub refused : 1 ≤ lowest_of (merge_tests a b target) → target' ≡ target
