-- `last_column` meets its contract. The loop's invariant: the first r entries are the column's. Assumes nothing.
use mathlib.Core.Path.{◌≡◌}
use Rattle.base.specs.Loops.{filled}
use Rattle.homography.specs.Arithmetic.{rounded}
use Rattle.homography.specs.Elimination.{entry}
use Rattle.homography.proofs.solve.last_column.Given as goal

abbrev pub invariant-loop-r : goal.invariant-loop-r
invariant-loop-r l = l.h ≡ filled (λ i. entry rounded l.a i 8) l.r l.initial.h
