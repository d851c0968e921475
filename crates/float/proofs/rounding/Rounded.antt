-- std's rounding is that of specs/Floats: of a fraction n / d both have the whole part of (2n + d) / 2d. Assumes nothing.
use Rattle.std.proofs.Common.{◌≡◌, ℕ, ◌+◌, ◌*◌, ◌/◌, true, false, refl, ap, mul_comm}
use lib.Ieee.{Float, nan, inf, fin, binary64, up, down, round}
use Rattle.std.specs.Float.{float_round, round_with}
use Rattle.float.specs.Floats.{round_of}

halves : (n d : ℕ) → (2 * n + d) / (2 * d) ≡ (n * 2 + d) / (d * 2)
halves n d = rw (mul_comm 2 n, mul_comm 2 d)

pub round_is : (x : Float) → float_round binary64 x ≡ round_of x
unfolding round_with round_of
round_is nan = refl
round_is (inf s) = refl
round_is (fin false m e) = ap (λ n. round binary64 false n 1) (halves (m * up e) (down e))
round_is (fin true m e) = ap (λ n. round binary64 true n 1) (halves (m * up e) (down e))
