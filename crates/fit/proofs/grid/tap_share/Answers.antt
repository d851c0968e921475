-- `fit::grid::tap_share` meets its contract. Assumes nothing.
use lib.Ieee.{of_bits, round}
use Rattle.base.proofs.Arith.{from_two}
use Rattle.fit.specs.Grid.{tap_share}
use Rattle.float.specs.Floats.{d64}
use native.Mathlib.Omega.{arith}
use mathlib.Core.Path.{refl, sym, ap}
use Rattle.fit.proofs.grid.tap_share.Goals as goal

pub returns-in-0 : goal.returns-in-0
unfolding tap_share d64 of_bits round
returns-in-0 c = sym (ap tap_share c.in-0.is)

pub returns-in-1 : goal.returns-in-1
unfolding tap_share d64 of_bits round
returns-in-1 c = sym (ap tap_share c.in-1.is)

pub returns-in_default : goal.returns-in_default
unfolding tap_share d64 of_bits round
returns-in_default c = from_two tap_share _ (λ m. refl) _ (λ e. omega arith) (λ e. omega arith)
