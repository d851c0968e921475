-- The records below j are stored.
use Rattle.std.proofs.Common.{◌≡◌, replicate}
use Rattle.base.specs.Loops.{filled}
use Rattle.blobs.specs.Patches.{patch_at}
use Rattle.records.specs.Records.{no_patch}
use Rattle.test_records.proofs.keep_patches.Given as goal

abbrev pub invariant-loop-j : goal.invariant-loop-j
invariant-loop-j l = l.list ≡ filled (patch_at l.patches) l.j (replicate 5 no_patch)
