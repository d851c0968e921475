-- `fit::grid::variance` meets its contract. Assumes nothing.
use lib.Ieee.{of_int, of_bits}
use lib.ListN.{length}
use Rattle.fit.specs.Grid.{variance}
use Rattle.float.specs.Floats.{f64, sum_of, ◌⊘◌, squared}
use Rattle.base.proofs.Turns.{turns_begin, turns_step, turns_end}
use native.Mathlib.Omega.{arith}
use mathlib.Core.Path.{ap}
use Rattle.fit.proofs.grid.variance.Goals as goal

pub loop-x-init : goal.loop-x-init
unfolding of_int of_bits
loop-x-init c = turns_begin _ _

pub loop-x-preserved : goal.loop-x-preserved
unfolding squared
loop-x-preserved c = turns_step _ _ _ c.loop-x.invariant

pub returns : goal.returns
unfolding variance sum_of
returns c = ap (λ s. s ⊘ f64 (length c.args.a.now)) (turns_end _ _ _ _ c.loop-x.invariant (omega arith))
