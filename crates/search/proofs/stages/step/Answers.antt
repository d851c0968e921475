-- `search::stages::step` meets its contract. Assumes nothing.
use lib.Ieee.{of_bits, round}
use Rattle.base.proofs.Arith.{from_two}
use native.Mathlib.Omega.{arith}
use Rattle.search.specs.Stages.{step}
use Rattle.float.specs.Floats.{d64}
use mathlib.Core.Path.{refl, sym, ap}
use Rattle.search.proofs.stages.step.Goals as goal

pub returns-in-0 : goal.returns-in-0
unfolding step d64 of_bits round
returns-in-0 c = sym (ap step c.in-0.is)

pub returns-in-1 : goal.returns-in-1
unfolding step d64 of_bits round
returns-in-1 c = sym (ap step c.in-1.is)

pub returns-in_default : goal.returns-in_default
unfolding step d64 of_bits round
returns-in_default c = from_two step _ (λ m. refl) _ (omega arith) (omega arith)
