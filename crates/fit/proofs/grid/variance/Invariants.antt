-- `fit::grid::variance` meets its contract. Assumes nothing.
use Rattle.fit.specs.Grid.{listed}
use Rattle.float.specs.Floats.{f64, add_at, ◌⊖◌, squared}
use Rattle.base.specs.Loops.{turns}
use mathlib.Core.Path.{◌≡◌}
use Rattle.fit.proofs.grid.variance.Given as goal

abbrev pub invariant-loop-x : goal.invariant-loop-x
invariant-loop-x l = l.sum ≡ turns l.x-index (add_at (λ j. squared (listed l.a j ⊖ l.m))) (f64 0)
