-- `fiducials::internal::quad_at` meets its contract. Assumes nothing.
use Rattle.fiducials.specs.Answers.{quad_at}
use Rattle.fiducials.proofs.internal.quad_at.Goals as goal

pub returns : goal.returns
unfolding quad_at
returns c = cc
