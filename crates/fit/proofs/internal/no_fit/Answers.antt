-- `fit::internal::no_fit` meets its contract. Assumes nothing.
use Rattle.float.specs.Floats.{f64}
use Rattle.homography.specs.declared.Homography.{Homography}
use lib.Ieee.{of_int, of_bits}
use mathlib.Core.Path.{ap}
use Rattle.fit.proofs.internal.no_fit.Goals as goal

pub returns : goal.returns
unfolding of_int of_bits
returns c = ap (λ (z : Homography). record { h = z; radial = record { k = f64 0; cx = f64 0; cy = f64 0; norm = f64 1 } }) c.identity.ensures
