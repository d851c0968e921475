-- `markers::internal::margin_for` meets its contract. Assumes nothing.
use native.Mathlib.Omega.{arith}
use Rattle.markers.specs.Layout.{margin_for}
use Rattle.markers.proofs.Sizes.{marker_size_most, quiet_most}
use Rattle.markers.proofs.internal.margin_for.Goals as goal

pub overflow_mul-result : goal.overflow_mul-result
overflow_mul-result c = omega (arith, quiet_most c.args.cell)

pub overflow_add-result : goal.overflow_add-result
overflow_add-result c =
    let a = c.args in
    omega (arith, quiet_most a.cell, marker_size_most a.cell)

pub returns : goal.returns
unfolding margin_for
returns c = omega arith
