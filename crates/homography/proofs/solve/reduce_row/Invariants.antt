-- `reduce_row` meets its contract. The loop's invariant: the entries from col up to j are reduced. Assumes nothing.
use mathlib.Core.Path.{◌≡◌}
use Rattle.base.specs.Loops.{between}
use Rattle.homography.specs.Arithmetic.{rounded}
use Rattle.homography.specs.Elimination.{reduce_at}
use Rattle.homography.proofs.solve.reduce_row.Given as goal

abbrev pub invariant-loop-j : goal.invariant-loop-j
invariant-loop-j l = l.a ≡ between l.col l.j (reduce_at rounded l.r l.col l.f) l.initial.a
