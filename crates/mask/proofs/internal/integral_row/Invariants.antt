-- `mask::internal::integral_row` meets its contract. The loop's invariant: the integral is filled up to column x of its row, and `row` is the row's sum so far. Assumes nothing.
use mathlib.Core.List.{List}
use lib.Ieee.{Float}
use Prim.Native.Nat.{◌≤◌, ◌+◌, ◌*◌}
use mathlib.Core.Path.{◌≡◌}
use lib.ListN.{length}
use Rattle.base.specs.Loops.{filled}
use Rattle.mask.specs.Mask.{row_sum, integral_entry}
use Rattle.mask.proofs.internal.integral_row.Given as goal

abbrev pub invariant-loop-x : goal.invariant-loop-x
invariant-loop-x v =
    ((l : List Float)
    → v.initial.integral ≡ filled (integral_entry v.luma v.w) ((v.y + 1) * (v.w + 1) + 1) l
    → v.integral ≡ filled (integral_entry v.luma v.w) ((v.y + 1) * (v.w + 1) + (v.x + 1)) l)
    × (v.x ≤ v.w)
    × (v.row ≡ row_sum v.luma v.w v.y v.x)
    × (length v.integral ≡ length v.initial.integral)
