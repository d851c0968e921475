-- `frame::internal::fill_row` meets its contract. Assumes nothing.
use Prim.Native.Nat.{◌≤◌, ◌-◌}
use mathlib.Core.Path.{◌≡◌}
use lib.ListN.{length}
use Rattle.frame.specs.Image.{image, with_rect}
use Rattle.frame.proofs.internal.fill_row.Given as goal

abbrev pub invariant-loop-x : goal.invariant-loop-x
invariant-loop-x l = (l.bytes ≡ with_rect (image l.w l.h l.initial.bytes) l.x0 l.y (l.x - l.x0) 1 l.c) × (l.x0 ≤ l.x) × (l.x - l.x0 ≤ l.x1 - l.x0) × (length l.bytes ≡ length l.initial.bytes)

abbrev pub decreases-loop-x : goal.decreases-loop-x
decreases-loop-x l = l.x1 - l.x
