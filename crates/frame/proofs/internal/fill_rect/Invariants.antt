-- `frame::internal::fill_rect` meets its contract. Assumes nothing.
use Prim.Native.Nat.{◌≤◌, ◌-◌}
use mathlib.Core.Path.{◌≡◌}
use lib.ListN.{length}
use Rattle.frame.specs.Image.{image, with_rect}
use Rattle.frame.proofs.internal.fill_rect.Given as goal

abbrev pub invariant-loop-y : goal.invariant-loop-y
invariant-loop-y l = (l.bytes ≡ with_rect (image l.w l.h l.initial.bytes) l.x0 l.y0 (l.x1 - l.x0) (l.y - l.y0) l.c) × (l.y0 ≤ l.y)
    × (l.y - l.y0 ≤ l.y1 - l.y0) × (length l.bytes ≡ length l.initial.bytes)

abbrev pub decreases-loop-y : goal.decreases-loop-y
decreases-loop-y l = l.y1 - l.y
