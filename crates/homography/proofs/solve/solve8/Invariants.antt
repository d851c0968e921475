-- `solve8` meets its contract. The loop's invariant: the columns up to col had a pivot and are cleared. Assumes nothing.
use mathlib.Core.Path.{◌≡◌}
use Rattle.base.specs.Loops.{turns}
use Rattle.homography.specs.Arithmetic.{rounded}
use Rattle.homography.specs.Elimination.{eliminate}
use Rattle.homography.proofs.Steps.{on}
use Rattle.homography.proofs.solve.solve8.Given as goal

abbrev pub invariant-loop-col : goal.invariant-loop-col
invariant-loop-col l = on l.a ≡ turns l.col (eliminate rounded) (on l.initial.a)
