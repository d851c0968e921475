-- `mask::internal::integral_plane` meets its contract. The loop's invariant: the integral is filled up to its row y + 1. Assumes nothing.
use native.Mathlib.Nat.{mul_comm}
use native.Mathlib.Omega.{arith}
use Prim.Native.Nat.{◌+◌, ◌*◌}
use mathlib.Core.Path.{◌≡◌, ap, ◌∙◌}
use Rattle.float.specs.Floats.{f64}
use Rattle.base.proofs.Plane.{filled_end, filled_cong}
use Rattle.mask.specs.Mask.{integral_entry}
use Rattle.mask.proofs.Entries.{top}
use Rattle.mask.proofs.internal.integral_plane.Goals as goal

pub returns : goal.returns
returns c =
    let a = c.args in
    let k = c.loop-y in
    let e : k.y ≡ a.h = omega arith in
    let q = c.first_row.ensures ∙ filled_cong (λ i. f64 0) (integral_entry a.luma.now a.w) (a.w + 1) a.integral.now (top a.luma.now a.w) in
    filled_end _ _ _ _ (k.invariant.0 a.integral.now q) (ap (λ i. (i + 1) * (a.w + 1)) e ∙ mul_comm (a.h + 1) (a.w + 1))
