-- `candidates::ring_rule::size` meets its contract. Assumes nothing.
use mathlib.Core.Path.{refl}
use lib.Ieee.{of_bits, of_int}
use Rattle.candidates.specs.Ring.{size_of}
use Rattle.candidates.proofs.ring_rule.size.Goals as goal

pub returns : goal.returns
unfolding size_of of_bits of_int
returns c = refl
