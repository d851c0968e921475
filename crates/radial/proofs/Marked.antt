-- The marked example M11, by computation. Assumes nothing.
use mathlib.Core.Path.{◌≡◌, refl}
use lib.Ieee.{Float, lt, is_nan, of_int, add, mul, div}
use Rattle.float.specs.Floats.{f64, max_of}
use Rattle.float.specs.Root.{sqrt_of}
use Rattle.radial.specs.Lens.{radial}

-- [15.1] M11 capture 60 by 80: norm 50
pub m11 : (k : Float) → (radial 60 80 k).norm ≡ f64 50
unfolding radial of_int div mul add sqrt_of max_of lt is_nan
m11 k = refl
