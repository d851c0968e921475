-- `fit::grid::mean` meets its contract. Assumes nothing.
use Rattle.fit.specs.Grid.{listed}
use Rattle.float.specs.Floats.{f64, add_at}
use Rattle.base.specs.Loops.{turns}
use mathlib.Core.Path.{◌≡◌}
use Rattle.fit.proofs.grid.mean.Given as goal

abbrev pub invariant-loop-x : goal.invariant-loop-x
invariant-loop-x l = l.sum ≡ turns l.x-index (add_at (listed l.a)) (f64 0)
