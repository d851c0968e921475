-- Float helpers (requirements, 4). ⊕ ⊖ ⊗ ⊘ are IEEE 754's rounded operations on f64. Assumes nothing.
use Rattle.std.specs.Prelude.{ℕ, ◌+◌, ◌-◌, ◌*◌, ◌/◌, true, false, cond, pos, Float}
use Rattle.std.specs.Float.{nan, inf, fin, binary32, binary64}
use Rattle.std.specs.Float.Ieee.{up, down, round, of_int, to_unsigned, lt, is_nan, add, sub, mul, div}
use Rattle.base.specs.Loops.{turns}

infixl 65 ◌⊕◌
infixl 65 ◌⊖◌
infixl 70 ◌⊗◌
infixl 70 ◌⊘◌
abbrev pub ◌⊕◌ : Float → Float → Float
x ⊕ y = add binary64 x y

abbrev pub ◌⊖◌ : Float → Float → Float
x ⊖ y = sub binary64 x y

abbrev pub ◌⊗◌ : Float → Float → Float
x ⊗ y = mul binary64 x y

abbrev pub ◌⊘◌ : Float → Float → Float
x ⊘ y = div binary64 x y

-- a whole number as an f64, and as an f32
abbrev pub f64 : ℕ → Float
f64 n = of_int binary64 (pos n)

abbrev pub f32 : ℕ → Float
f32 n = of_int binary32 (pos n)

-- the decimal num / den: the f64, or the f32, nearest to it
unfoldable pub d64 : ℕ → ℕ → Float
d64 num den = round binary64 false num den

unfoldable pub d32 : ℕ → ℕ → Float
d32 num den = round binary32 false num den

-- 1e-12
abbrev pub tiny : Float
tiny = d64 1 1000000000000

-- [4.2] narrowing f64 to f32 is to nearest, ties to even
unfoldable pub narrowed : Float → Float
narrowed nan = nan
narrowed (inf s) = inf s
narrowed (fin s m e) = round binary32 s (m * up e) (down e)

-- [4.2] widening is exact: one type of values serves both formats
abbrev pub widened : Float → Float
widened x = x

-- [4.3] `round` takes halves away from zero
unfoldable pub round_of : Float → Float
round_of nan = nan
round_of (inf s) = inf s
round_of (fin s m e) = round binary64 s ((m * up e * 2 + down e) / (down e * 2)) 1

-- [4.4] Rust's `floor`, exact: the whole number at x or next below it
unfoldable pub floor_of : Float → Float
floor_of nan = nan
floor_of (inf s) = inf s
floor_of (fin false m e) = round binary64 false (m * up e / down e) 1
floor_of (fin true m e) = round binary64 true ((m * up e + (down e - 1)) / down e) 1

-- [4.4] a float becomes a u8 or a usize as Rust's `as` does it: NaN gives 0, ends saturate
abbrev pub as_u8 : Float → ℕ
as_u8 x = to_unsigned 8 x

abbrev pub as_usize : Float → ℕ
as_usize x = to_unsigned 64 x

-- x without its sign
unfoldable pub abs_of : Float → Float
abs_of nan = nan
abs_of (inf s) = inf false
abs_of (fin s m e) = fin false m e

-- [9.3] 1 with the sign of x: +0 is positive, −0 negative
unfoldable pub signum_of : Float → Float
signum_of nan = nan
signum_of (inf s) = fin s 1 (pos 0)
signum_of (fin s m e) = fin s 1 (pos 0)

-- Rust's max: the larger, and the other one where one is a NaN. Of two zeros, for which Rust leaves it open, the first
unfoldable pub max_of : Float → Float → Float
max_of x y = cond (is_nan x) y (cond (lt x y) y x)

-- Rust's clamp: a NaN stays. Where lo is above hi, or one of them a NaN, Rust panics; here the tests are made in this
-- order
unfoldable pub clamp_of : Float → Float → Float → Float
clamp_of lo hi x = cond (lt x lo) lo (cond (lt hi x) hi x)

-- [4.5] `powi(2)` means the value times itself
unfoldable pub squared : Float → Float
squared x = x ⊗ x

-- [4.6] sums start at zero and go in the source's order: f 0 + f 1 + .. + f (n - 1)
abbrev pub add_at : (ℕ → Float) → ℕ → Float → Float
add_at f k s = s ⊕ f k

unfoldable pub sum_of : (ℕ → Float) → ℕ → Float
sum_of f n = turns n (add_at f) (f64 0)
