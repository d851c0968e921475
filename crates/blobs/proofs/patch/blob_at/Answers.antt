-- `blobs::patch::blob_at` meets its contract. Assumes nothing.
use mathlib.Core.Path.{refl}
use Rattle.blobs.specs.Patches.{patch_at}
use Rattle.blobs.proofs.patch.blob_at.Goals as goal

pub returns : goal.returns
unfolding patch_at
returns c = refl
