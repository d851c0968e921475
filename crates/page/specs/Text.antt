-- The page as text (requirements, 17.1 to 17.6). Assumes nothing.
use Rattle.std.specs.Prelude.{ℕ, zero, suc, ◌+◌, ◌-◌, ◌/◌, ◌%◌, ◌^◌, cond, List, [], ◌∷◌, ◌++◌, eqb, Float}
use Rattle.base.specs.Loops.{joined}
use Rattle.candidates.specs.Ring.{candidate_at}
use Rattle.page.specs.Amounts.{units_of}
use Rattle.page.specs.declared.Row.{Row}

-- ---- letters
abbrev pub blank : ℕ
blank = 32

abbrev pub point : ℕ
point = 46

abbrev pub feed : ℕ
feed = 10

-- the last digit of q
abbrev pub digit : ℕ → ℕ
digit q = 48 + q % 10

-- .. or a blank where no digit is left
abbrev pub leading : ℕ → ℕ
leading q = cond (eqb q 0) blank (digit q)

-- ---- numbers

-- [17.3] n columns for the last n digits of q, to the right: the last column for q, the one before it for q / 10, ..
unfoldable pub columns : (ℕ → ℕ) → ℕ → ℕ → List ℕ
columns letter zero q = []
columns letter (suc n) q = columns letter n (q / 10) ++ (letter q ∷ [])

-- [17.3] a whole number in n columns: it stands to the right, padded with blanks, and has at least one digit
unfoldable pub whole : ℕ → ℕ → List ℕ
whole n q = columns leading (n - 1) (q / 10) ++ (digit q ∷ [])

-- [17.3, 17.4] the same for q parts of 1 / 10^places: the point before the last `places` digits
unfoldable pub field_of : ℕ → ℕ → ℕ → List ℕ
field_of width places q = whole (width - (places + 1)) (q / 10 ^ places) ++ (point ∷ columns digit places q)

-- ---- lines

-- [17.1] the numbers of candidate i, by their names in its record; its place in the patch list is not printed
unfoldable pub row_at : List Float → ℕ → Row
row_at c i =
    let r = candidate_at c [] i in
    record { x = r.center.x; y = r.center.y; size = r.size; score = r.score }

-- [17.2] 36 columns and a line feed
abbrev pub line_length : ℕ
line_length = 37

-- [17.2] rank 4, blank, centre x 8, blank, centre y 8, blank, size 7, blank, score 5; [17.4] centres and size have two
-- decimals and the score three
unfoldable pub line_of : ℕ → Row → List ℕ
line_of rank r =
    (whole 4 rank ++ (blank ∷ []))
    ++ (field_of 8 2 (units_of 100 r.x) ++ (blank ∷ []))
    ++ (field_of 8 2 (units_of 100 r.y) ++ (blank ∷ []))
    ++ (field_of 7 2 (units_of 100 r.size) ++ (blank ∷ []))
    ++ (field_of 5 3 (units_of 1000 r.score) ++ (feed ∷ []))

-- [17.5] the ranks start at 1 in candidate order
abbrev pub page_text : List Float → ℕ → List ℕ
page_text c n = joined (λ i. line_of (i + 1) (row_at c i)) n
