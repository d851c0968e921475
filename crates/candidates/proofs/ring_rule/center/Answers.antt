-- `candidates::ring_rule::center` meets its contract. Assumes nothing.
use lib.Ieee.{of_bits, of_int}
use Rattle.float.specs.Floats.{d64}
use Rattle.candidates.specs.Ring.{center}
use mathlib.Core.Path.{refl}
use Rattle.candidates.proofs.ring_rule.center.Goals as goal

pub returns : goal.returns
unfolding center of_bits of_int d64
returns c = refl
