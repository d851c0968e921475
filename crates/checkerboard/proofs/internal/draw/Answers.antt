-- `checkerboard::internal::draw` meets its contract. Assumes nothing.
use Prim.Native.Nat.{◌*◌}
use native.Mathlib.Nat.{mul_comm}
use native.Mathlib.Omega.{arith}
use mathlib.Core.Path.{◌≡◌, ap, ◌∙◌}
use Rattle.base.proofs.Plane.{filled_begin, filled_end}
use Rattle.checkerboard.proofs.internal.draw.Goals as goal

pub loop-y-init : goal.loop-y-init
loop-y-init c = filled_end _ _ _ _ (filled_begin _ _) (omega arith)

pub loop-y-preserved : goal.loop-y-preserved
loop-y-preserved c = c.draw_row.ensures _ c.loop-y.invariant

pub returns : goal.returns
returns c =
    let a = c.args in
    let e : c.loop-y.y ≡ a.h = omega arith in
    filled_end _ _ _ _ c.loop-y.invariant (ap (λ i. i * a.w) e ∙ mul_comm a.h a.w)
