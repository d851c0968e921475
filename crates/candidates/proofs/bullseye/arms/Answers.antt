-- `candidates::bullseye::arms` meets its contract. Assumes nothing.
use mathlib.Core.Path.{refl}
use lib.Ieee.{of_bits, of_int}
use Rattle.candidates.proofs.bullseye.arms.Goals as goal

pub returns : goal.returns
unfolding of_bits of_int
returns c = refl
