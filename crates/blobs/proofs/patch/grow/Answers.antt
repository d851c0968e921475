-- `blobs::patch::grow` meets its contract. Assumes nothing.
use Rattle.blobs.specs.Stack.{grow}
use Rattle.blobs.proofs.patch.grow.Goals as goal

pub returns : goal.returns
unfolding grow
returns c = cc
