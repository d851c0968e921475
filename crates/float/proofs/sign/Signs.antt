-- std's words for a float without its sign, and for 1 with it, are those of specs/Floats. Assumes nothing.
use Rattle.std.proofs.Common.{◌≡◌, refl, false}
use lib.Ieee.{Float, nan, inf, fin}
use Rattle.std.specs.Float.{float_with_sign, float_signum}
use Rattle.float.specs.Floats.{abs_of, signum_of}

pub abs_is : (x : Float) → float_with_sign false x ≡ abs_of x
unfolding float_with_sign abs_of
abs_is nan = refl
abs_is (inf s) = refl
abs_is (fin s m e) = refl

pub signum_is : (x : Float) → float_signum x ≡ signum_of x
unfolding float_signum signum_of
signum_is nan = refl
signum_is (inf s) = refl
signum_is (fin s m e) = refl
