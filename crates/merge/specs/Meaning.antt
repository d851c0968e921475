-- What the definitions come to: theorems that a reader can cite (requirements, 28). proofs/Meaning shows them. Assumes
-- nothing.
use Rattle.std.specs.Prelude.{ℕ, ◌+◌, ◌*◌, ◌≤◌, ◌<◌, ◌≡◌, Bool, true, false, cond, ◌||◌, ◌⊎◌, ◌↔◌, List, [], ◌∷◌, ◌++◌, length, take, drop, Result, Ok}
use Rattle.base.specs.Bytes.{AllBelow}
use Rattle.frame.specs.Refusals.{lowest_of}
use Rattle.frame.specs.declared.refusals.Refusal.{Refusal}
use Rattle.book.specs.Layout.{book_length, count_in, key_in, header}
use Rattle.book.specs.Promises.{Reading, Writing}
use Rattle.book.specs.Meaning.{WellFormed, Rise}
use Rattle.merge.specs.Merged.{records, Accepted, Joined, Differs, DifferentKeys, same_key, size, differs}
use Rattle.merge.specs.Promises.{merge_tests, Merging}

-- ---- what is refused

-- [28.5] the test is whether a shared key has different bytes
abbrev pub DiffersIs : Type 0
DiffersIs = (a b : List ℕ) → Accepted a → Accepted b → (differs a b ≡ true) ↔ Differs a b

-- [28.2] the joined book has as many records as there are different keys, also where bytes differ
abbrev pub SizeIs : Type 0
SizeIs = (a b : List ℕ) → Accepted a → Accepted b → DifferentKeys a b (size a b)

-- [28.5] "a shared key": one of these records has the key of r
unfoldable pub has_key : List ℕ → List (List ℕ) → Bool
has_key r [] = false
has_key r (s ∷ m) = same_key r s || has_key r m

-- .. and how many of the first records have a key that one of the second has
unfoldable pub shared_keys : List (List ℕ) → List (List ℕ) → ℕ
shared_keys [] m = 0
shared_keys (r ∷ l) m = cond (has_key r m) 1 0 + shared_keys l m

-- [28.2] that is as many as both have, less the shared ones
abbrev pub SizeCounts : Type 0
SizeCounts =
    (a b : List ℕ) → Accepted a → Accepted b
    → size a b + shared_keys (records a) (records b) ≡ count_in a + count_in b

-- [28.5, 28.6, 28.7, 28.8] what a call is refused by, and 0 where it is not: the first book, the second, 3, and 18 last
pub data MergeRefusal (a b target : List ℕ) (n : ℕ) : Type 0 where
  first_malformed : n ≡ 14 → (WellFormed a → ⊥) → MergeRefusal a b target n
  first_unsorted : n ≡ 15 → WellFormed a → (Rise (key_in a) (count_in a) → ⊥) → MergeRefusal a b target n
  second_malformed : n ≡ 14 → Accepted a → (WellFormed b → ⊥) → MergeRefusal a b target n
  second_unsorted : n ≡ 15 → Accepted a → WellFormed b → (Rise (key_in b) (count_in b) → ⊥) → MergeRefusal a b target n
  short : n ≡ 3 → Accepted a → Accepted b → length target < book_length (size a b) → MergeRefusal a b target n
  unjoined : n ≡ 18 → Accepted a → Accepted b → book_length (size a b) ≤ length target
      → (Differs a b ⊎ (4294967295 < book_length (size a b))) → MergeRefusal a b target n
  none : n ≡ 0 → Accepted a → Accepted b → book_length (size a b) ≤ length target
      → (Differs a b → ⊥) → book_length (size a b) ≤ 4294967295 → MergeRefusal a b target n

abbrev pub MergeGiven : Type 0
MergeGiven = (a b target : List ℕ) → MergeRefusal a b target (lowest_of (merge_tests a b target))

-- ---- what is joined

-- [28.2, 28.3] there is one joined book only: no two builds that keep the promise differ
abbrev pub OneBook : Type 0
OneBook = (a b c d : List ℕ) → AllBelow 256 c → AllBelow 256 d → Joined a b c → Joined a b d → c ≡ d

-- [28.2] an accepted book joined with itself is itself
abbrev pub WithItself : Type 0
WithItself =
    (a target target' : List ℕ) (n : Result ℕ Refusal)
    → AllBelow 256 a → Accepted a → length a ≤ length target
    → Merging a a target target' n
    → (n ≡ Ok (length a)) × (target' ≡ a ++ drop (length a) target)

-- [28.2] .. and with the book of no records: 16 bytes
abbrev pub WithNone : Type 0
WithNone =
    (a target target' : List ℕ) (n : Result ℕ Refusal)
    → AllBelow 256 a → Accepted a → length a ≤ length target
    → Merging a (header 0) target target' n
    → (n ≡ Ok (length a)) × (target' ≡ a ++ drop (length a) target)

-- [28.1] accepted books may be exchanged: the same number and the same bytes, refused or not
abbrev pub Exchanged : Type 0
Exchanged =
    (a b target x y : List ℕ) (n m : Result ℕ Refusal)
    → Accepted a → Accepted b
    → Merging a b target x n → Merging b a target y m
    → (n ≡ m) × (x ≡ y)

-- [18.6] the joined book is read, and what was read is written to it again
abbrev pub RoundTrip : Type 0
RoundTrip =
    (a b target target' : List ℕ) (n : ℕ) → AllBelow 256 target' → Merging a b target target' (Ok n)
    → (heads numbers heads' numbers' : List ℕ) (m : Result ℕ Refusal)
    → 3 * size a b ≤ length heads → 13 * size a b ≤ length numbers
    → Reading (take n target') heads numbers heads' numbers' m
    → (area area' : List ℕ) (k : Result ℕ Refusal) → n ≤ length area
    → Writing heads' numbers' (size a b) area area' k
    → (m ≡ Ok (size a b)) × (k ≡ Ok n) × (area' ≡ take n target' ++ drop n area)
