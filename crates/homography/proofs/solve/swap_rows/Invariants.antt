-- `swap_rows` meets its contract. The loop's invariant: the first j entries have changed places. Assumes nothing.
use mathlib.Core.Path.{◌≡◌}
use Rattle.base.specs.Loops.{turns}
use Rattle.homography.specs.Arithmetic.{rounded}
use Rattle.homography.specs.Elimination.{swap_at}
use Rattle.homography.proofs.solve.swap_rows.Given as goal

abbrev pub invariant-loop-j : goal.invariant-loop-j
invariant-loop-j l = l.a ≡ turns l.j (swap_at rounded l.p l.q) l.initial.a
