-- `candidates::constants::verify_threshold` meets its contract. Assumes nothing.
use lib.Ieee.{of_bits, round}
use Rattle.float.specs.Floats.{d64}
use mathlib.Core.Path.{refl}
use Rattle.candidates.proofs.constants.verify_threshold.Goals as goal

pub returns : goal.returns
unfolding d64 of_bits round
returns c = refl
