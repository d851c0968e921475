-- `markers::stamp::end` meets its contract. Assumes nothing.
use lib.Ieee.{of_int, of_bits}
use Rattle.markers.proofs.stamp.end.Goals as goal

pub returns : goal.returns
unfolding of_int of_bits
returns c = cc
