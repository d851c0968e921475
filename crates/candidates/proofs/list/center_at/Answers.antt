-- `candidates::list::center_at` meets its contract. Assumes nothing.
use mathlib.Core.Path.{refl}
use Rattle.candidates.specs.Ring.{center_at}
use Rattle.candidates.proofs.list.center_at.Goals as goal

pub returns : goal.returns
unfolding center_at
returns c = refl
