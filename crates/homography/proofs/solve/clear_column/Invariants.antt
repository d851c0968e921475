-- `clear_column` meets its contract. The loop's invariant: the rows up to r are reduced. Assumes nothing.
use mathlib.Core.Path.{◌≡◌}
use Rattle.base.specs.Loops.{turns}
use Rattle.homography.specs.Arithmetic.{rounded}
use Rattle.homography.specs.Elimination.{clear_at}
use Rattle.homography.proofs.solve.clear_column.Given as goal

abbrev pub invariant-loop-r : goal.invariant-loop-r
invariant-loop-r l = l.a ≡ turns l.r (clear_at rounded l.col) l.initial.a
