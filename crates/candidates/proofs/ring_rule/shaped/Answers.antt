-- `candidates::ring_rule::shaped` meets its contract. Assumes nothing.
use mathlib.Core.Path.{refl}
use lib.Ieee.{of_bits, of_int}
use Rattle.float.specs.Floats.{d64}
use Rattle.candidates.specs.Ring.{shaped}
use Rattle.candidates.proofs.ring_rule.shaped.Goals as goal

pub returns : goal.returns
unfolding shaped of_bits of_int d64
returns c = rw c.min.ensures refl
