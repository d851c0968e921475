-- `markers::internal::centers` meets its contract. Assumes nothing.
use native.Mathlib.Omega.{arith}
use lib.Ieee.{of_int, of_bits}
use Rattle.markers.specs.Layout.{marker_centers}
use Rattle.base.proofs.Floats.{held64}
use Rattle.markers.proofs.Sizes.{marker_most}
use Rattle.markers.proofs.internal.centers.Goals as goal

pub int_to_float-half : goal.int_to_float-half
int_to_float-half c = held64 _ (omega (arith, marker_most c.args.frame.spec))

pub returns : goal.returns
unfolding marker_centers of_int of_bits
returns c = cc
