-- `mask::internal::integral_plane` meets its contract. The loop's invariant: the integral is filled up to its row y + 1. Assumes nothing.
use mathlib.Core.List.{List}
use lib.Ieee.{Float}
use Prim.Native.Nat.{◌≤◌, ◌+◌, ◌*◌}
use mathlib.Core.Path.{◌≡◌}
use lib.ListN.{length}
use Rattle.base.specs.Loops.{filled}
use Rattle.mask.specs.Mask.{integral_entry}
use Rattle.mask.proofs.internal.integral_plane.Given as goal

abbrev pub invariant-loop-y : goal.invariant-loop-y
invariant-loop-y v =
    ((l : List Float) → v.initial.integral ≡ filled (integral_entry v.luma v.w) (v.w + 1) l → v.integral ≡ filled (integral_entry v.luma v.w) ((v.y + 1) * (v.w + 1)) l)
    × (v.y ≤ v.h)
    × (length v.integral ≡ length v.initial.integral)
