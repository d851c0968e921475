-- `frame::internal::frame_outside` meets its contract. Assumes nothing.
use Rattle.frame.specs.Refusals.{frame_outside}
use Rattle.frame.proofs.internal.frame_outside.Goals as goal

pub returns : goal.returns
unfolding frame_outside
returns c = cc
