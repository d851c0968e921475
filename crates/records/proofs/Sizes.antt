-- The byte offset of a record of s bytes in a slice of records fits a usize: the elements of a slice take at most isize::MAX bytes. Assumes nothing.
use Prim.Native.Nat.{ℕ, ◌*◌, ◌<◌, ◌^◌}
use native.Mathlib.Nat.{mul-le-mul_right, le_of_lt}
use native.Mathlib.Omega.{arith}

pub offset_fits : (s j n : ℕ) → j < n → n * s < 2 ^ 63 → j * s < 2 ^ 64
offset_fits s j n l r = omega (arith, mul-le-mul_right s (le_of_lt l))
