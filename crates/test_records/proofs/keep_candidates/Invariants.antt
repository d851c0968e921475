-- The records below i are stored.
use Rattle.std.proofs.Common.{◌≡◌, replicate}
use Rattle.base.specs.Loops.{filled}
use Rattle.candidates.specs.Ring.{candidate_at}
use Rattle.records.specs.Records.{no_candidate}
use Rattle.test_records.proofs.keep_candidates.Given as goal

abbrev pub invariant-loop-i : goal.invariant-loop-i
invariant-loop-i l = l.list ≡ filled (candidate_at l.candidates l.blob_index) l.i (replicate 5 no_candidate)
