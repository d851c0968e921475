-- Two books joined to one (requirements, 28), by meaning and by equation. Assumes nothing.
use Rattle.std.specs.Prelude.{ℕ, ◌<◌, ◌≡◌, Bool, not, cond, ◌&&◌, ◌||◌, ◌⊎◌, eqb, length, get_or, take, drop}
use mathlib.Core.List.{List, [], ◌∷◌, ◌++◌, flatten}
use Rattle.base.specs.Loops.{every, table}
use Rattle.book.specs.Layout.{book_length, header, u32_at, count_in, key_in}
use Rattle.book.specs.declared.keys.Key.{Key}
use Rattle.book.specs.Promises.{key_before}
use Rattle.book.specs.Meaning.{Rise, WellFormed}

-- ---- the records of a book, as bytes

-- [18.3, 18.4] record j of a book
unfoldable pub record_in : List ℕ → ℕ → List ℕ
record_in b j = take 120 (drop (book_length j) b)

-- .. and all, in their order
unfoldable pub records : List ℕ → List (List ℕ)
records b = table (record_in b) (count_in b)

-- [18.4] the key that stands in a record's bytes
unfoldable pub key_of : List ℕ → Key
key_of r = record { panel = u32_at r 0; camera = u32_at r 4 }

-- ---- by meaning

-- [28.1] "accepted books": those that a reader does not refuse by 14 or 15
pub record Accepted (b : List ℕ) : Type 0 where
  pub formed : WellFormed b
  pub rises : Rise (key_in b) (count_in b)

-- r is a record of b, byte for byte
abbrev pub RecordOf : List ℕ → List ℕ → Type 0
RecordOf r b = (j : ℕ) × (j < count_in b) × (record_in b j ≡ r)

-- c is a and b joined
pub record Joined (a b c : List ℕ) : Type 0 where
  -- [28.2] "each key .. once, rising": an accepted book
  pub accepted : Accepted c
  -- [28.3] "each record is one that stood in an input under that key": the key is in its bytes
  pub from_either : (k : ℕ) → k < count_in c → RecordOf (record_in c k) a ⊎ RecordOf (record_in c k) b
  -- [28.2] "each key of either"; [28.4] "a key in both must carry equal bytes", so it is the record of both
  pub all_first : (i : ℕ) → i < count_in a → RecordOf (record_in a i) c
  pub all_second : (j : ℕ) → j < count_in b → RecordOf (record_in b j) c

-- [28.5] "a shared key has different bytes"
abbrev pub Differs : List ℕ → List ℕ → Type 0
Differs a b =
    (i : ℕ) × (j : ℕ) × (i < count_in a) × (j < count_in b) × (key_in a i ≡ key_in b j) × (record_in a i ≡ record_in b j → ⊥)

-- b has a record under the key x
abbrev pub HasKey : List ℕ → Key → Type 0
HasKey b x = (j : ℕ) × (j < count_in b) × (key_in b j ≡ x)

-- [28.2] "each key of either once": a and b have n different keys, which are key 0, key 1, .. key (n - 1)
pub record DifferentKeys (a b : List ℕ) (n : ℕ) : Type 0 where
  pub key : ℕ → Key
  pub once : (k l : ℕ) → k < l → l < n → key k ≡ key l → ⊥
  pub from_either : (k : ℕ) → k < n → HasKey a (key k) ⊎ HasKey b (key k)
  pub all_first : (i : ℕ) → i < count_in a → (k : ℕ) × (k < n) × (key k ≡ key_in a i)
  pub all_second : (j : ℕ) → j < count_in b → (k : ℕ) × (k < n) × (key k ≡ key_in b j)

-- ---- by equation

-- [18.5] the key of r goes before that of s: by panel, then by camera
unfoldable pub goes_before : List ℕ → List ℕ → Bool
goes_before r s = key_before (key_of r).panel (key_of r).camera (key_of s).panel (key_of s).camera

-- [28.2, 28.3] records with rising keys joined: the lesser key first; of one that both have, the first's record
unfoldable pub merged : List (List ℕ) → List (List ℕ) → List (List ℕ)
merged [] m = m
merged (r ∷ l) [] = r ∷ l
merged (r ∷ l) (s ∷ m) =
    cond (goes_before r s) (r ∷ merged l (s ∷ m))
    (cond (goes_before s r) (s ∷ merged (r ∷ l) m) (r ∷ merged l m))

-- [18.3] the book of these records
unfoldable pub book_of : List (List ℕ) → List ℕ
book_of l = header (length l) ++ flatten l

-- [28.1] the joined book, and how many records it has
unfoldable pub joined_book : List ℕ → List ℕ → List ℕ
joined_book a b = book_of (merged (records a) (records b))

unfoldable pub size : List ℕ → List ℕ → ℕ
size a b = length (merged (records a) (records b))

-- [28.4] "equal bytes": all 120
unfoldable pub same_record : List ℕ → List ℕ → Bool
same_record r s = every 120 (λ k. eqb (get_or r k 0) (get_or s k 0))

-- [28.5] "a shared key": the keys of both are the same
unfoldable pub same_key : List ℕ → List ℕ → Bool
same_key r s = eqb (key_of r).panel (key_of s).panel && eqb (key_of r).camera (key_of s).camera

-- [28.4] "a key in both must carry equal bytes": they have other keys, or equal bytes
unfoldable pub agree : List ℕ → List ℕ → Bool
agree r s = not (same_key r s) || same_record r s

-- [28.5] some record of a and some of b do not
unfoldable pub differs : List ℕ → List ℕ → Bool
differs a b = not (every (count_in a) (λ i. every (count_in b) (λ j. agree (record_in a i) (record_in b j))))
