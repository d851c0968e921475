-- `candidates::list::list` meets its contract. Assumes nothing.
use Prim.Native.Nat.{◌≤◌, ◌*◌}
use Rattle.blobs.specs.Patches.{patch_at}
use Rattle.candidates.specs.Ring.{CandidateList}
use Rattle.candidates.proofs.Listing.{areas}
use Rattle.candidates.proofs.list.list.Given as goal

abbrev pub invariant-loop-j : goal.invariant-loop-j
invariant-loop-j l = record {
  listed : CandidateList l.mask l.luma l.w l.h (patch_at l.patches) l.j l.initial.candidates l.initial.blob_index l.candidates l.blob_index l.k;
  counted : 32 * l.k ≤ areas l.mask l.luma l.w l.h (patch_at l.patches) l.j;
  upto : l.k ≤ l.j;
}
