-- Amounts in hundredths and thousandths (requirements, 17.4 and 17.9). Assumes nothing.
use Rattle.std.specs.Prelude.{ℕ, ◌+◌, ◌-◌, ◌*◌, ◌/◌, ◌^◌, Bool, true, false, not, ◌&&◌, leb, Float}
use Rattle.std.specs.Float.{nan, inf, fin}
use Rattle.std.specs.Float.Ieee.{up, down, lt}
use Rattle.float.specs.Floats.{f64}

-- [17.4] the float's exact amount in parts of 1 / d, nearest, halves upward: x is m · up e / down e, so that is
-- ⌊d · x + 1/2⌋ over whole numbers. 0 for what is no number
unfoldable pub units_of : ℕ → Float → ℕ
units_of d nan = 0
units_of d (inf s) = 0
units_of d (fin s m e) = (m * up e * d * 2 + down e) / (down e * 2)

-- [17.9] finite: no NaN and no infinity
unfoldable pub finite : Float → Bool
finite nan = false
finite (inf s) = false
finite (fin s m e) = true

-- [17.9] not too wide: the most parts whose digits, with a point among them, fit `width` columns
abbrev pub widest : ℕ → ℕ
widest width = 10 ^ (width - 1) - 1

-- [17.9] not negative, finite and not too wide: at most `most` parts of 1 / d. −0 is not below 0
unfoldable pub printable : ℕ → ℕ → Float → Bool
printable d most x = finite x && not (lt x (f64 0)) && leb (units_of d x) most
