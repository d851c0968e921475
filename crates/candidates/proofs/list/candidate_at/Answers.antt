-- `candidates::list::candidate_at` meets its contract. Assumes nothing.
use Rattle.candidates.specs.Ring.{candidate_at}
use Rattle.candidates.proofs.list.candidate_at.Goals as goal

pub returns : goal.returns
unfolding candidate_at
returns c = cc
