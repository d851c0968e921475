-- `markers::internal::marker_size` meets its contract. Assumes nothing.
use native.Mathlib.Omega.{arith}
use Rattle.markers.specs.Layout.{marker_size}
use Rattle.markers.proofs.internal.marker_size.Goals as goal

pub returns : goal.returns
unfolding marker_size
returns c = omega arith
