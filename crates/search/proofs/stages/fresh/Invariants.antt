-- `search::stages::fresh` meets its contract. The loop's invariant: no entry before has the term. Assumes nothing.
use mathlib.Core.Bool.{true, not}
use mathlib.Core.Path.{◌≡◌}
use lib.Ieee.{eq}
use Rattle.base.specs.Loops.{every}
use Rattle.search.specs.Stages.{k_at}
use Rattle.search.proofs.stages.fresh.Given as goal

abbrev pub invariant-loop-earlier : goal.invariant-loop-earlier
invariant-loop-earlier v = every v.earlier (λ l. not (eq (k_at v.number v.center l) (k_at v.number v.center v.entry))) ≡ true
