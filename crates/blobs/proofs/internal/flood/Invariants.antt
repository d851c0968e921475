-- As many turns are done as pixels are counted. Assumes nothing.
use Prim.Native.Nat.{◌-◌}
use mathlib.Core.Path.{◌≡◌}
use lib.ListN.{length}
use Rattle.base.specs.Loops.{turns}
use Rattle.blobs.specs.Stack.{stack_of, flooding, begun, flood_step}
use Rattle.blobs.proofs.internal.flood.Given as goal

abbrev pub invariant-loop-top : goal.invariant-loop-top
invariant-loop-top l =
    flooding l.seen (stack_of l.waiting l.top) l.blob l.waited ≡ turns l.blob.area (flood_step l.mask l.w) (begun l.w l.a l.fn.seen)

abbrev pub decreases-loop-top : goal.decreases-loop-top
decreases-loop-top l = length l.mask - l.blob.area
