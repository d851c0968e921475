-- `Homography::identity` meets its contract: the literals are the definition's numbers. Assumes nothing.
use mathlib.Core.Path.{ap}
use lib.Ieee.{of_bits, of_int}
use Rattle.homography.proofs.Homography.identity.Goals as goal

pub returns : goal.returns
unfolding of_bits of_int
returns c = ap (λ m. record { m = m }) c.from_mat.ensures
