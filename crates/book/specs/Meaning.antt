-- What the definitions come to: theorems that a reader can cite. proofs/Meaning, WritesBack, ReadsBack and FitKept
-- show them. Assumes nothing.
use Rattle.std.specs.Prelude.{ℕ, ◌*◌, ◌^◌, ◌≤◌, ◌<◌, ◌≡◌, true, false, not, ◌||◌, ◌⊎◌, ◌↔◌, List, ◌++◌, T, length, get_or, take, drop, Result, Ok}
use Rattle.std.specs.Float.{nan, binary64}
use Rattle.std.specs.Float.Ieee.{fits}
use Rattle.base.specs.Bytes.{AllBelow}
use Rattle.frame.specs.Refusals.{Lowest, Tested, lowest_of}
use Rattle.frame.specs.declared.refusals.Refusal.{Refusal}
use Rattle.fit.specs.Numbers.{fit_numbers}
use Rattle.fit.specs.declared.GeometryFit.{GeometryFit}
use Rattle.fit.specs.declared.Grade.{Grade}
use Rattle.book.specs.Layout.{book_length, u32_at, count_in, key_in, grade_in, zero_in}
use Rattle.book.specs.Layout.{record_of, fit_in}
use Rattle.book.specs.declared.keys.Key.{Key}
use Rattle.book.specs.Promises.{keys_rise, header_wrong, records_held, read_tests, write_tests}
use Rattle.book.specs.Promises.{Reading, Writing}

-- ---- what is refused

-- [18.5] panel, then camera
abbrev pub Before : Key → Key → Type 0
Before a b = (a.panel < b.panel) ⊎ ((a.panel ≡ b.panel) × (a.camera < b.camera))

-- [18.5] "rise strictly": each key is above all before it, whatever lies between
abbrev pub Rise : (ℕ → Key) → ℕ → Type 0
Rise key n = (i j : ℕ) → i < j → j < n → Before (key i) (key j)

abbrev pub RiseIs : Type 0
RiseIs = (key : ℕ → Key) (n : ℕ) → (keys_rise key n ≡ true) ↔ Rise key n

-- [18.3] header and length are right
pub record Headed (b : List ℕ) : Type 0 where
  -- "four u32"
  pub headed : 16 ≤ length b
  -- "offset of the first record (16), record length (120)"
  pub offset : u32_at b 4 ≡ 16
  pub each : u32_at b 8 ≡ 120
  -- "total length (16 + 120 times the count, and all the bytes there are)"
  pub total : u32_at b 12 ≡ book_length (count_in b)
  pub all : length b ≡ u32_at b 12

-- [18.3, 18.4] .. and grades and zero fields
pub record WellFormed (b : List ℕ) : Type 0 where
  pub header : Headed b
  -- "grade u32 (0 scored, 1 outside, 2 too few), a zero u32"
  pub grades : (j : ℕ) → j < count_in b → grade_in b j ≤ 2
  pub zeros : (j : ℕ) → j < count_in b → zero_in b j ≡ 0

abbrev pub WellFormedIs : Type 0
WellFormedIs = (b : List ℕ) → ((header_wrong b || not (records_held b (count_in b))) ≡ false) ↔ WellFormed b

-- [18.7, 18.8, 18.9] what a reader is refused by, and 0 where it is not: 14, next 15, and 3 after 15
pub data ReadRefusal (b heads numbers : List ℕ) (n : ℕ) : Type 0 where
  malformed : n ≡ 14 → (WellFormed b → ⊥) → ReadRefusal b heads numbers n
  unsorted : n ≡ 15 → WellFormed b → (Rise (key_in b) (count_in b) → ⊥) → ReadRefusal b heads numbers n
  short : n ≡ 3 → WellFormed b → Rise (key_in b) (count_in b)
      → ((length heads < 3 * count_in b) ⊎ (length numbers < 13 * count_in b)) → ReadRefusal b heads numbers n
  none : n ≡ 0 → WellFormed b → Rise (key_in b) (count_in b) → 3 * count_in b ≤ length heads
      → 13 * count_in b ≤ length numbers → ReadRefusal b heads numbers n

abbrev pub ReaderGiven : Type 0
ReaderGiven = (b heads numbers : List ℕ) → ReadRefusal b heads numbers (lowest_of (read_tests b heads numbers))

-- [18.9] "a writer's first": 3, 14, 15, and so [2.12] the lowest number that applies
abbrev pub WriterGiven : Type 0
WriterGiven =
    (heads numbers : List ℕ) (count : ℕ) (book : List ℕ)
    → Lowest (λ n. Tested n (write_tests heads numbers count book)) (lowest_of (write_tests heads numbers count book))

-- ---- round trips

-- [18.6] "writing a book that was read gives its bytes back, NaN bits included": in an area that can hold it the writer
-- accepts, and the book stands there
abbrev pub WritesBack : Type 0
WritesBack =
    (b heads numbers heads' numbers' : List ℕ) (n : ℕ) (area area' : List ℕ) (a : Result ℕ Refusal)
    → AllBelow 256 b
    → Reading b heads numbers heads' numbers' (Ok n)
    → Writing heads' numbers' n area area' a
    → length b ≤ length area
    → (a ≡ Ok (length b)) × (area' ≡ b ++ drop (length b) area)

-- .. and a book that was written reads back: the reader accepts it, and the records stand in lists that can hold them
abbrev pub ReadsBack : Type 0
ReadsBack =
    (heads numbers : List ℕ) (n : ℕ) (area area' : List ℕ) (m : ℕ) (x y x' y' : List ℕ) (a : Result ℕ Refusal)
    → AllBelow (2 ^ 32) heads
    → AllBelow (2 ^ 64) numbers
    → Writing heads numbers n area area' (Ok m)
    → Reading (take m area') x y x' y' a
    → 3 * n ≤ length x
    → 13 * n ≤ length y
    → (a ≡ Ok n) × (x' ≡ take (3 * n) heads ++ drop (3 * n) x) × (y' ≡ take (13 * n) numbers ++ drop (13 * n) y)

-- [18.1] "so a fit can be kept": the fit of the record that keeps it, for numbers that are f64
abbrev pub FitKept : Type 0
FitKept =
    (panel camera : ℕ) (g : Grade) (t : GeometryFit)
    → length t.h.m ≡ 9
    → ((i : ℕ) → i < 13 → T (fits binary64 (get_or (fit_numbers t) i nan)))
    → fit_in (record_of panel camera g t) ≡ t
