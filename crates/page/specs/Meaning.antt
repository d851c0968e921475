-- What the definitions come to: theorems that a reader can cite. proofs/Meaning and proofs/Spelling show them. Assumes
-- nothing.
use Rattle.std.specs.Prelude.{ℕ, ◌+◌, ◌-◌, ◌*◌, ◌^◌, ◌≤◌, ◌<◌, ◌≡◌, true, ◌↔◌, List, [], ◌∷◌, ◌++◌, pos, length, get_or, take, drop, replicate, Float}
use Rattle.std.specs.Float.{nan, inf, fin}
use Rattle.std.specs.Float.Ieee.{up, down}
use Rattle.frame.specs.Refusals.{Lowest, Tested, lowest_of}
use Rattle.page.specs.Amounts.{units_of, finite, widest, printable}
use Rattle.page.specs.Text.{blank, point, feed, whole, field_of, line_length, line_of, row_at, page_text}
use Rattle.page.specs.Promises.{row_printable, every_printable, page_tests}
use Rattle.page.specs.declared.Row.{Row}

-- ---- amounts

-- q/d − 1/(2d) ≤ |x| < q/d + 1/(2d), cross-multiplied: x is m · up e / down e in size
abbrev pub NearestUp : ℕ → Float → ℕ → Type 0
NearestUp d nan q = ⊥
NearestUp d (inf s) q = ⊥
NearestUp d (fin s m e) q =
    (2 * q * down e ≤ 2 * d * (m * up e) + down e) × (2 * d * (m * up e) + down e < 2 * (q + 1) * down e)

-- [17.4] the float's exact amount, nearest, halves upward: q is printed exactly when it is that number
abbrev pub AmountIs : Type 0
AmountIs = (d : ℕ) (x : Float) → finite x ≡ true → (q : ℕ) → (q ≡ units_of d x) ↔ NearestUp d x q

-- [17.4] −0 prints as 0: it is not negative, and its amount is 0
abbrev pub MinusZeroIs : Type 0
MinusZeroIs =
    (d most : ℕ) → (printable d most (fin true 0 (pos 0)) ≡ true) × (units_of d (fin true 0 (pos 0)) ≡ 0)

-- ---- spelling

-- each letter is a digit
abbrev pub AllDigits : List ℕ → Type 0
AllDigits [] = Unit {0}
AllDigits (c ∷ l) = (48 ≤ c) × (c ≤ 57) × AllDigits l

-- the number that digits spell, after v
abbrev pub read_after : ℕ → List ℕ → ℕ
read_after v [] = v
read_after v (c ∷ l) = read_after (v * 10 + (c - 48)) l

-- t spells the whole number q in n columns: blanks, then q's digits, at least one, with no zero in front
pub record SpellsWhole (n q : ℕ) (t : List ℕ) : Type 0 where
  pub blanks : ℕ
  pub digits : List ℕ
  pub text : t ≡ replicate blanks blank ++ digits
  pub long : length t ≡ n
  pub all_digits : AllDigits digits
  pub some : 1 ≤ length digits
  pub no_zero : 2 ≤ length digits → get_or digits 0 0 ≡ 48 → ⊥
  pub value : read_after 0 digits ≡ q

-- t spells q parts of 1 / 10^places in `width` columns: a whole number, the point, `places` digits; read together they
-- are q
pub record SpellsParts (width places q : ℕ) (t : List ℕ) : Type 0 where
  pub front : List ℕ
  pub back : List ℕ
  pub v : ℕ
  pub text : t ≡ front ++ (point ∷ back)
  pub long : length t ≡ width
  pub before : SpellsWhole (width - (places + 1)) v front
  pub back_long : length back ≡ places
  pub back_digits : AllDigits back
  pub value : read_after v back ≡ q

-- [17.3] numbers stand to the right, padded with blanks, wherever they fit
abbrev pub WholeSpelled : Type 0
WholeSpelled = (n q : ℕ) → 1 ≤ n → q < 10 ^ n → SpellsWhole n q (whole n q)

abbrev pub PartsSpelled : Type 0
PartsSpelled =
    (width places q : ℕ) → places + 2 ≤ width → q ≤ widest width → SpellsParts width places q (field_of width places q)

-- ---- lines and pages

-- t spells x in `width` columns, `places` of them behind the point: the parts of 1 / d nearest to it, halves upward
pub record SpellsAmount (d width places : ℕ) (x : Float) (t : List ℕ) : Type 0 where
  pub q : ℕ
  pub nearest : NearestUp d x q
  pub spelled : SpellsParts width places q t

-- t spells a candidate's line
pub record SpellsLine (rank : ℕ) (r : Row) (t : List ℕ) : Type 0 where
  pub rank_text : List ℕ
  pub x_text : List ℕ
  pub y_text : List ℕ
  pub size_text : List ℕ
  pub score_text : List ℕ
  -- [17.2] rank, blank, centre x, blank, centre y, blank, size, blank, score, and a line feed
  pub text :
      t
      ≡ (rank_text ++ (blank ∷ [])) ++ (x_text ++ (blank ∷ [])) ++ (y_text ++ (blank ∷ []))
      ++ (size_text ++ (blank ∷ [])) ++ (score_text ++ (feed ∷ []))
  -- [17.2] 4, 8, 8, 7 and 5 columns; [17.4] centres and size have two decimals and the score three
  pub rank_spelled : SpellsWhole 4 rank rank_text
  pub x_spelled : SpellsAmount 100 8 2 r.x x_text
  pub y_spelled : SpellsAmount 100 8 2 r.y y_text
  pub size_spelled : SpellsAmount 100 7 2 r.size size_text
  pub score_spelled : SpellsAmount 1000 5 3 r.score score_text

-- so it is with the line of a candidate whose numbers can be printed
abbrev pub LineSpelled : Type 0
LineSpelled = (rank : ℕ) (r : Row) → rank ≤ 9999 → row_printable r ≡ true → SpellsLine rank r (line_of rank r)

-- [17.2] a line has 36 columns and a line feed
abbrev pub LineLong : Type 0
LineLong = (rank : ℕ) (r : Row) → length (line_of rank r) ≡ line_length

abbrev pub PageLong : Type 0
PageLong = (c : List Float) (count : ℕ) → length (page_text c count) ≡ line_length * count

-- [17.5] line i, from 0, is that of candidate i, with the rank i + 1
abbrev pub LinesAre : Type 0
LinesAre =
    (c : List Float) (count i : ℕ) → i < count
    → take line_length (drop (line_length * i) (page_text c count)) ≡ line_of (i + 1) (row_at c i)

-- ---- refusals

-- [17.9] each number of each candidate is looked at
abbrev pub EachPrintable : Type 0
EachPrintable =
    (c : List Float) (count : ℕ)
    → (every_printable c count ≡ true) ↔ ((i : ℕ) → i < count → row_printable (row_at c i) ≡ true)

-- [2.12] the number given is the lowest that applies
abbrev pub LowestGiven : Type 0
LowestGiven =
    (c : List Float) (count : ℕ) (page : List ℕ)
    → Lowest (λ n. Tested n (page_tests c count page)) (lowest_of (page_tests c count page))
