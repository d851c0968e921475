-- `markers::internal::origins` meets its contract. Assumes nothing.
use native.Mathlib.Omega.{arith}
use Rattle.markers.specs.Layout.{origins}
use Rattle.base.proofs.Floats.{held64}
use Rattle.markers.proofs.Sizes.{quiet_most, marker_most}
use Rattle.markers.proofs.internal.origins.Goals as goal

pub int_to_float-m : goal.int_to_float-m
int_to_float-m c = held64 _ (omega (arith, marker_most c.args.frame.spec))

pub int_to_float-q : goal.int_to_float-q
int_to_float-q c = held64 _ (omega (arith, quiet_most c.args.frame.spec.cell))

pub int_to_float-far_x : goal.int_to_float-far_x
int_to_float-far_x c = held64 _ (omega arith)

pub int_to_float-far_y : goal.int_to_float-far_y
int_to_float-far_y c = held64 _ (omega arith)

pub returns : goal.returns
unfolding origins
returns c = cc
