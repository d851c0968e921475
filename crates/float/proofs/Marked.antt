-- The marked example M12, by computation. Assumes nothing.
use Rattle.std.proofs.Common.{◌≡◌, refl}
use lib.Ieee.{neg, of_int}
use Rattle.float.specs.Floats.{d64, f64, round_of}

-- [15.1] M12 round(2.5) = 3, round(−0.5) = −1
pub m12 : (round_of (d64 25 10) ≡ f64 3) × (round_of (neg (d64 5 10)) ≡ neg (f64 1))
unfolding round_of d64 neg of_int
m12 = (refl, refl)
