-- `markers::internal::marker` meets its contract. Assumes nothing.
use native.Mathlib.Omega.{arith}
use Rattle.markers.specs.Layout.{marker}
use Rattle.markers.proofs.Sizes.{quiet_most}
use Rattle.markers.proofs.internal.marker.Goals as goal

pub overflow_mul-quiet_zone : goal.overflow_mul-quiet_zone
overflow_mul-quiet_zone c = omega (arith, quiet_most c.args.frame.spec.cell)

pub returns : goal.returns
unfolding marker
returns c = omega arith
