-- What the steps of reading do. Assumes nothing.
use Rattle.std.specs.Prelude.{ℕ, ◌+◌, ◌≤◌, ◌<◌, ◌≡◌, cond, Option, Some, None, List, eqb, get_or}
use Rattle.patch_text.specs.declared.read.Size.{Size}
use Rattle.patch_text.specs.Text.{blank, decimal}
use Rattle.checkerboard_text.specs.Text.{Asks}

-- the number that the byte c is the digit of, if it is one
abbrev pub Digit : ℕ → Option ℕ → Type 0
Digit c (Some r) = (r < 10) × (c ≡ 48 + r)
Digit c None = (n : ℕ) → n < 10 → c ≡ 48 + n → ⊥

-- the number from 1 to 64 that the digits d spell, if there is one
abbrev pub Side : List ℕ → Option ℕ → Type 0
Side d (Some r) = (1 ≤ r) × (r ≤ 64) × (d ≡ decimal r)
Side d None = (n : ℕ) → 1 ≤ n → n ≤ 64 → d ≡ decimal n → ⊥

-- the place of the blank after a side
unfoldable pub blank_place : List ℕ → ℕ
blank_place b = cond (eqb (get_or b 1 0) blank) 1 2

-- the size that the text b asks for, if there is one
abbrev pub Measured : List ℕ → Option Size → Type 0
Measured b (Some s) = Asks b s.w s.h
Measured b None = (w h : ℕ) → Asks b w h → ⊥
