-- `mask::internal::integral_row` meets its contract. The loop's invariant: the integral is filled up to column x of its row, and `row` is the row's sum so far. Assumes nothing.
use lib.Ieee.{of_bits, of_int}
use native.Mathlib.Omega.{arith}
use Prim.Native.Nat.{◌+◌, ◌*◌}
use mathlib.Core.Path.{◌≡◌, refl, ap, ◌∙◌}
use lib.ListN.{length, length-set}
use Rattle.base.proofs.Turns.{turns_begin, turns_step}
use Rattle.base.proofs.Plane.{filled_step, filled_end}
use Rattle.base.proofs.Arith.{row_end}
use Rattle.float.specs.Floats.{◌⊕◌}
use Rattle.mask.specs.Mask.{row_step, row_sum}
use Rattle.mask.proofs.Entries.{place, side, entry, above}
use Rattle.mask.proofs.internal.integral_row.Goals as goal

pub loop-x-init : goal.loop-x-init
unfolding row_sum of_bits of_int
loop-x-init c = (λ l e. filled_end _ _ _ _ e (omega arith), omega arith, turns_begin _ _, refl)

pub loop-x-preserved : goal.loop-x-preserved
unfolding row_sum
loop-x-preserved c =
    let a = c.args in
    let k = c.loop-x in
    let n : length k.integral ≡ length a.integral.now = simp length-set at k.invariant.3 in
    let p = place k.x a.y a.w a.h (omega arith) (omega arith) in
    let base = (a.y + 1) * (a.w + 1) in
    let s = ap (λ v. k.row ⊕ v) c.widen-row.ensures ∙ turns_step (row_step a.luma.now a.w a.y) _ _ k.invariant.2 in (
      λ l e.
          let u = above a.luma.now a.w k.x a.y (base + (k.x + 1)) k.integral l (k.invariant.0 l e) (omega arith) (omega arith) (omega arith) in
          filled_end _ _ _ _ (filled_step _ _ _ _ (k.invariant.0 l e) (entry a.luma.now a.w k.x a.y _ _ (omega arith) u s)) (omega arith),
      omega arith,
      s,
      simp length-set n,
    )

pub returns : goal.returns
unfolding of_bits of_int
returns c =
    let k = c.loop-x in
    let a = c.args in
    λ l e. filled_end _ _ _ _ (k.invariant.0 l (filled_step _ _ _ _ e (side a.luma.now a.w a.y))) (omega (arith, row_end (a.y + 1) (a.w + 1)))
