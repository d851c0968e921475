-- `markers::internal::no_layout` meets its contract. Assumes nothing.
use native.Mathlib.Omega.{arith}
use Rattle.markers.specs.Layout.{no_layout}
use Rattle.markers.proofs.Sizes.{quiet_most}
use Rattle.markers.proofs.internal.no_layout.Goals as goal

pub overflow_mul-result : goal.overflow_mul-result
overflow_mul-result c = omega (arith, quiet_most c.args.frame.spec.cell)

pub returns : goal.returns
unfolding no_layout
returns c = cc
