-- `search::constants::k_max` meets its contract. Assumes nothing.
use lib.Ieee.{of_bits, round}
use Rattle.float.specs.Floats.{d64}
use mathlib.Core.Path.{refl}
use Rattle.search.proofs.constants.k_max.Goals as goal

pub returns : goal.returns
unfolding d64 of_bits round
returns c = refl
