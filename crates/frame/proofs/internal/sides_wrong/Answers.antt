-- `frame::internal::sides_wrong` meets its contract. Assumes nothing.
use Rattle.frame.specs.Refusals.{sides_wrong}
use Rattle.frame.proofs.internal.sides_wrong.Goals as goal

pub returns : goal.returns
unfolding sides_wrong
returns c = cc
