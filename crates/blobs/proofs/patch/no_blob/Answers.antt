-- `blobs::patch::no_blob` meets its contract. Assumes nothing.
use mathlib.Core.Path.{refl}
use Rattle.blobs.specs.Stack.{no_blob}
use Rattle.blobs.proofs.patch.no_blob.Goals as goal

pub returns : goal.returns
unfolding no_blob
returns c = refl
