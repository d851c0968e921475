-- The walk through both books: what the functions behind `merge_books` ask and leave. Assumes nothing.
use Rattle.std.specs.Prelude.{ℕ, ◌+◌, ◌≤◌, ◌<◌, ◌≡◌, Bool, false, not, cond, ◌||◌, List, [], ◌∷◌, length, drop}
use Rattle.book.specs.Layout.{book_length, count_in}
use Rattle.merge.specs.Merged.{Accepted, record_in, records, goes_before, same_record}
use Rattle.merge.specs.declared.plan.Plan.{Plan}
use Rattle.merge.specs.declared.walk.Cursors.{Cursors}
use Rattle.merge.specs.declared.walk.Side.{Side}
use Rattle.merge.specs.declared.walk.Side.TheVariants.{First, Second, Both}

-- ---- what is asked

-- the bytes are all there
pub record Whole (a b : List ℕ) : Type 0 where
  pub first_whole : length a ≡ book_length (count_in a)
  pub second_whole : length b ≡ book_length (count_in b)

-- two books that are not refused
pub record Mergeable (a b : List ℕ) : Type 0 where
  pub first_accepted : Accepted a
  pub second_accepted : Accepted b

-- no more records are passed than there are
pub record Within (a b : List ℕ) (at : Cursors) : Type 0 where
  pub first_within : at.first ≤ count_in a
  pub second_within : at.second ≤ count_in b

-- the next key stands there
abbrev pub Held : List ℕ → List ℕ → Cursors → Side → Type 0
Held a b at First = at.first < count_in a
Held a b at Second = at.second < count_in b
Held a b at Both = (at.first < count_in a) × (at.second < count_in b)

-- ---- a step

-- the records that are not passed
abbrev pub rest_of : List ℕ → ℕ → List (List ℕ)
rest_of b i = drop i (records b)

-- where the least key stands of records that are not passed
unfoldable pub side_of : List (List ℕ) → List (List ℕ) → Side
side_of [] m = Second
side_of (r ∷ l) [] = First
side_of (r ∷ l) (s ∷ m) = cond (goes_before r s) First (cond (goes_before s r) Second Both)

unfoldable pub passed : Cursors → Side → Cursors
passed at First = record { first = at.first + 1; second = at.second }
passed at Second = record { first = at.first; second = at.second + 1 }
passed at Both = record { first = at.first + 1; second = at.second + 1 }

-- its record: the first book's, where both have it
unfoldable pub next_record : List ℕ → List ℕ → Cursors → Side → List ℕ
next_record a b at First = record_in a at.first
next_record a b at Second = record_in b at.second
next_record a b at Both = record_in a at.first

-- both have it, with different bytes
unfoldable pub clash : List ℕ → List ℕ → Cursors → Side → Bool
clash a b at First = false
clash a b at Second = false
clash a b at Both = not (same_record (record_in a at.first) (record_in b at.second))

-- the plan with this key in it
unfoldable pub counted : List ℕ → List ℕ → Cursors → Side → Plan → Plan
counted a b at side p = record { count = p.count + 1; differs = p.differs || clash a b at side }
