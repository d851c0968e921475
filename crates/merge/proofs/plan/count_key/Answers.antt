-- `merge::plan::count_key` meets its contract. Assumes nothing.
use Rattle.merge.specs.Steps.{counted}
use Rattle.merge.proofs.plan.count_key.Goals as goal

pub returns : goal.returns
unfolding counted
returns c = cc
