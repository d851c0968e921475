-- `with_one` meets its contract. Assumes nothing.
use lib.Ieee.{of_bits, of_int}
use Rattle.homography.proofs.with_one.Goals as goal

pub returns : goal.returns
unfolding of_bits of_int
returns c = cc
