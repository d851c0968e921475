-- `checkerboard_text::print::mask_text` meets its contract. Assumes nothing.
use Prim.Native.Nat.{ℕ, ◌≤◌, ◌+◌, ◌*◌}
use native.Mathlib.Omega.{arith}
use mathlib.Core.Path.{ap, ◌∙◌}
use lib.ListN.{length, take}
use Rattle.base.proofs.Arith.{product_le}
use Rattle.base.proofs.Plane.{filled_begin, filled_step, filled_end}
use Rattle.base.proofs.Table.{take_filled}
use Rattle.patch_text.specs.Text.{mask_text}
use Rattle.checkerboard_text.proofs.print.mask_text.Goals as goal

pub loop-k-init : goal.loop-k-init
loop-k-init c = filled_begin _ _

pub loop-k-preserved : goal.loop-k-preserved
loop-k-preserved c = filled_step _ _ _ _ c.loop-k.invariant c.byte_at.ensures

pub returns : goal.returns
unfolding mask_text
returns c =
    let p = c.requires in
    let a = c.args in
    let n : ℕ = a.size.h * (a.size.w + 1) in
    let full : n ≤ length a.out.now = omega (arith, product_le a.size.h (a.size.w + 1) 64 65 p.1 (omega arith)) in
    (ap (take n) (filled_end _ _ c.loop-k.k n c.loop-k.invariant (omega arith)) ∙ take_filled _ n 0 a.out.now full, omega (arith, full))
