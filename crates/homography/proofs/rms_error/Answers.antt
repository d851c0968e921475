-- `rms_error` meets its contract, from its callees'. Assumes nothing.
use lib.Ieee.{of_bits, of_int}
use Rattle.homography.proofs.Ends.{rms_is}
use Rattle.homography.proofs.rms_error.Goals as goal

pub returns : goal.returns
unfolding of_bits of_int
returns c =
    rms_is _ _ _ _ _ _ _ c.squared_distance-tl.ensures
    c.squared_distance-tr.ensures c.squared_distance-br.ensures
    c.squared_distance-bl.ensures c.sqrt.ensures.value
