-- What the program `patches` reads and prints (requirements, 7.6 and 7.7). Assumes nothing.
use Rattle.std.specs.Prelude.{ℕ, zero, suc, ◌+◌, ◌*◌, ◌/◌, ◌%◌, ◌≤◌, ◌≡◌, cond, List, [], ◌∷◌, ◌++◌, ◌⊎◌, ltb, eqb, length, get_or, take}
use Rattle.base.specs.Loops.{table, by_row}
use Rattle.blobs.specs.Patches.{patch_at, PatchList}
use Rattle.blobs.specs.declared.Blob.{Blob}

-- ---- letters
abbrev pub hash : ℕ
hash = 35

abbrev pub dot : ℕ
dot = 46

abbrev pub feed : ℕ
feed = 10

abbrev pub blank : ℕ
blank = 32

-- ---- a mask: [7.6] lines of `#` (dark) and `.` of equal length

unfoldable pub letter : ℕ → ℕ
letter zero = dot
letter (suc n) = hash

-- column x of row y, for a line feed after each w letters
unfoldable pub byte_at : ℕ → List ℕ → ℕ → ℕ → ℕ
byte_at w m x y = cond (eqb x w) feed (letter (get_or m (y * w + x) 0))

unfoldable pub mask_text : ℕ → ℕ → List ℕ → List ℕ
mask_text w h m = table (by_row (w + 1) (byte_at w m)) (h * (w + 1))

-- the text b is the mask m of w by h, 1 where dark and 0 elsewhere: [7.6] at most 64 by 64; an empty text or line is
-- none
pub record Reads (b : List ℕ) (w h : ℕ) (m : List ℕ) : Type 0 where
  pub wide : 1 ≤ w
  pub narrow : w ≤ 64
  pub high : 1 ≤ h
  pub low : h ≤ 64
  pub long : length m ≡ w * h
  pub flags : (q : ℕ) → get_or m q 0 ≤ 1
  -- [7.7] each input line ends in a line feed, which the last may lack
  pub text : (b ≡ mask_text w h m) ⊎ (b ++ (feed ∷ []) ≡ mask_text w h m)

-- ---- numbers, with no zero in front

unfoldable pub spelled : ℕ → ℕ → List ℕ
spelled zero n = []
spelled (suc k) n = cond (ltb n 10) ((48 + n) ∷ []) (spelled k (n / 10) ++ ((48 + n % 10) ∷ []))

-- twenty digits are enough for every number of 64 bits
unfoldable pub decimal : ℕ → List ℕ
decimal n = spelled 20 n

-- a number and the letter after it
unfoldable pub field : ℕ → ℕ → List ℕ
field n after = decimal n ++ (after ∷ [])

-- ---- [7.6] width, height, number of patches, then one record a line; [7.7] each printed line ends in a line feed

-- [7.3] area, sum of x, sum of y and the box x0, y0, x1, y1; [24.3] the record "ends with this eighth number", the
-- outline
unfoldable pub record_line : Blob → List ℕ
record_line b =
    field b.area blank ++ field b.sx blank ++ field b.sy blank ++ field b.x0 blank ++ field b.y0 blank
    ++ field b.x1 blank ++ field b.y1 blank ++ field b.outline feed

unfoldable pub record_lines : List Blob → List ℕ
record_lines [] = []
record_lines (b ∷ l) = record_line b ++ record_lines l

unfoldable pub patch_text : ℕ → ℕ → List Blob → List ℕ
patch_text w h l = field w blank ++ field h blank ++ field (length l) feed ++ record_lines l

-- [7.7] .. prints only `refused 2`
abbrev pub refused_text : List ℕ
refused_text = 114 ∷ 101 ∷ 102 ∷ 117 ∷ 115 ∷ 101 ∷ 100 ∷ 32 ∷ 50 ∷ 10 ∷ []

-- ---- the program: what it prints for the text b

-- t is the patch list of the mask m
pub record Printed (w h : ℕ) (m t : List ℕ) : Type 0 where
  pub before : List ℕ
  pub list : List ℕ
  pub count : ℕ
  pub firsts : List ℕ
  pub patches : PatchList m w before list count firsts
  pub text : t ≡ patch_text w h (table (patch_at list) count)

pub data Answered (b t : List ℕ) : Type 0 where
  accepted : (w h : ℕ) (m : List ℕ) → Reads b w h m → Printed w h m t → Answered b t
  refused : ((w h : ℕ) (m : List ℕ) → Reads b w h m → ⊥) → t ≡ refused_text → Answered b t

-- t is what the program prints for every input b that it may have read: n bytes of the buffer are the first of b, as
-- many as fit, or all
abbrev pub AnsweredWhole : List ℕ → ℕ → List ℕ → Type 0
AnsweredWhole buffer n t = (b : List ℕ) → take n buffer ≡ take (length buffer) b → Answered b t
