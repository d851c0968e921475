-- What `read_book` and `write_book` do (requirements, 18). Assumes nothing.
use Rattle.std.specs.Prelude.{ℕ, ◌+◌, ◌-◌, ◌*◌, ◌≤◌, ◌≡◌, Bool, not, ◌&&◌, ◌||◌, List, [], ◌∷◌, ◌++◌, leb, ltb, eqb, length, drop, Result}
use Rattle.base.specs.Loops.{every, filled}
use Rattle.frame.specs.Refusals.{Check, check, lowest_of, answer_for}
use Rattle.frame.specs.declared.refusals.Refusal.{Refusal}
use Rattle.frame.specs.declared.refusals.Refusal.TheVariants.{AreaShort, Malformed, KeysFall}
use Rattle.book.specs.declared.keys.Key.{Key}
use Rattle.book.specs.Layout.{book_length, book_bytes, u32_at, count_in, key_in, grade_in, zero_in}
use Rattle.book.specs.Layout.{head_entry, number_entry, key_at, grade_at, record_at}

-- ---- tests

-- [18.5] panel p and camera c go before panel q and camera d: by panel, then by camera
unfoldable pub key_before : ℕ → ℕ → ℕ → ℕ → Bool
key_before p c q d = ltb p q || (eqb p q && ltb c d)

-- [18.5] the key of record j + 1 is above that of record j
unfoldable pub rises_at : (ℕ → Key) → ℕ → Bool
rises_at key j = key_before (key j).panel (key j).camera (key (j + 1)).panel (key (j + 1)).camera

-- [18.5] .. for each of n records but the last: "panel, then camera, rise strictly"
unfoldable pub keys_rise : (ℕ → Key) → ℕ → Bool
keys_rise key n = every (n - 1) (rises_at key)

-- [18.4] "grade u32 (0 scored, 1 outside, 2 too few)"
abbrev pub grade_held : ℕ → Bool
grade_held g = leb g 2

-- [18.3, 18.7] header or length is wrong: sixteen bytes at least; 16 and 120; the total, as a whole number, and all the
-- bytes there are
unfoldable pub header_wrong : List ℕ → Bool
header_wrong b =
    ltb (length b) 16
    || (not (eqb (u32_at b 4) 16)
    || not (eqb (u32_at b 8) 120)
    || not (eqb (u32_at b 12) (book_length (count_in b)))
    || not (eqb (length b) (u32_at b 12)))

-- [18.4] grade and zero field of record j, and of all
unfoldable pub record_held : List ℕ → ℕ → Bool
record_held b j = grade_held (grade_in b j) && eqb (zero_in b j) 0

unfoldable pub records_held : List ℕ → ℕ → Bool
records_held b n = every n (record_held b)

unfoldable pub grades_held : List ℕ → ℕ → Bool
grades_held heads n = every n (λ j. grade_held (grade_at heads j))

-- a book's own: [18.7] 14 for header, length, grade or zero field, [18.8] "and next with 15 when keys do not rise"
unfoldable pub book_tests : List ℕ → List Check
book_tests b =
    check Malformed (header_wrong b || not (records_held b (count_in b)))
    ∷ check KeysFall (not (keys_rise (key_in b) (count_in b)))
    ∷ []

-- [18.9] "a target that is too short gives 3, .. a reader's after 15". The numbers do not rise: the first test that
-- holds is given, and not the lowest number
unfoldable pub read_tests : List ℕ → List ℕ → List ℕ → List Check
read_tests b heads numbers =
    book_tests b
    ++ (check AreaShort (ltb (length heads) (3 * count_in b) || ltb (length numbers) (13 * count_in b)) ∷ [])

-- [18.9] "a writer's first": the target, and a list that is shorter than its count; [18.7] 14: "a total to be written
-- passes 4,294,967,295", or a grade is wrong; [18.8] 15
unfoldable pub write_tests : List ℕ → List ℕ → ℕ → List ℕ → List Check
write_tests heads numbers count book =
    check AreaShort
    (ltb (length heads) (3 * count) || ltb (length numbers) (13 * count) || ltb (length book) (book_length count))
    ∷ check Malformed (ltb 4294967295 (book_length count) || not (grades_held heads count))
    ∷ check KeysFall (not (keys_rise (key_at heads) count))
    ∷ []

-- ---- the functions

-- [18.6] `read_book`: the lists become heads' and numbers', and the answer is a
pub record Reading (b heads numbers heads' numbers' : List ℕ) (a : Result ℕ Refusal) : Type 0 where
  pub given : a ≡ answer_for (read_tests b heads numbers) (count_in b)
  -- [17.6] a longer list keeps its rest
  pub heads_are : lowest_of (read_tests b heads numbers) ≡ 0 → heads' ≡ filled (head_entry b) (3 * count_in b) heads
  pub numbers_are : lowest_of (read_tests b heads numbers) ≡ 0
      → numbers' ≡ filled (number_entry b) (13 * count_in b) numbers
  -- [18.10] "a refusal leaves it untouched"
  pub refused : 1 ≤ lowest_of (read_tests b heads numbers) → (heads' ≡ heads) × (numbers' ≡ numbers)

-- [18.6] `write_book`: the book's area becomes book'
pub record Writing (heads numbers : List ℕ) (count : ℕ) (book book' : List ℕ) (a : Result ℕ Refusal) : Type 0 where
  pub given : a ≡ answer_for (write_tests heads numbers count book) (book_length count)
  -- [17.6] a longer area keeps its rest
  pub accepted : lowest_of (write_tests heads numbers count book) ≡ 0
      → book' ≡ book_bytes (record_at heads numbers) count ++ drop (book_length count) book
  -- [18.10] "a refusal leaves it untouched"
  pub refused : 1 ≤ lowest_of (write_tests heads numbers count book) → book' ≡ book
