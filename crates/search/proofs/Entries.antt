-- The stages' lengths. Assumes nothing.
use mathlib.Core.Path.{◌≡◌, refl}
use Prim.Native.Nat.{ℕ, suc}
use lib.Ieee.{of_int, mul, div, to_unsigned}
use Rattle.float.specs.Floats.{d64, round_of}
use Rattle.search.specs.Stages.{entries, span, step}

-- [12.1] stages of 41, 21 and 16 trials by `K_STAGES`
pub stage_lengths : (entries 0 ≡ 41) × (entries 1 ≡ 21) × (entries 2 ≡ 16)
unfolding entries span step d64 of_int mul div round_of to_unsigned
stage_lengths = (refl, refl, refl)

pub later_length : (n : ℕ) → entries (suc (suc n)) ≡ 16
unfolding entries span step d64 of_int mul div round_of to_unsigned
later_length n = refl
