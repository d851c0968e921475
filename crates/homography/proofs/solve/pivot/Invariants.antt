-- `pivot` meets its contract. The loop's invariant: piv is the pivot among the rows from col up to r. Assumes nothing.
use mathlib.Core.Path.{◌≡◌}
use Prim.Native.Nat.{◌<◌, ◌+◌}
use Rattle.base.specs.Loops.{between}
use Rattle.homography.specs.Arithmetic.{rounded}
use Rattle.homography.specs.Elimination.{better}
use Rattle.homography.proofs.solve.pivot.Given as goal

abbrev pub invariant-loop-r : goal.invariant-loop-r
invariant-loop-r l = (l.piv ≡ between (l.col + 1) l.r (better rounded l.a l.col) l.col) × (l.piv < 8)
