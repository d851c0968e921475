-- `divide_row` meets its contract. The loop's invariant: the entries from col up to j are divided. Assumes nothing.
use mathlib.Core.Path.{◌≡◌}
use Rattle.base.specs.Loops.{between}
use Rattle.homography.specs.Arithmetic.{rounded}
use Rattle.homography.specs.Elimination.{divide_at}
use Rattle.homography.proofs.solve.divide_row.Given as goal

abbrev pub invariant-loop-j : goal.invariant-loop-j
invariant-loop-j l = l.a ≡ between l.col l.j (divide_at rounded l.r l.d) l.initial.a
