-- `mask::internal::radius` meets its contract. Assumes nothing.
use native.Mathlib.Omega.{arith}
use Rattle.mask.specs.Mask.{radius}
use Rattle.mask.proofs.internal.radius.Goals as goal

pub returns : goal.returns
unfolding radius
returns c = (omega arith, omega arith)
