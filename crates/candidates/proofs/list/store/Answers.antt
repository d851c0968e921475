-- `candidates::list::store` meets its contract. Assumes nothing.
use mathlib.Core.Path.{refl}
use Rattle.candidates.specs.Bounds.{stored_record}
use Rattle.candidates.proofs.list.store.Goals as goal

pub returns-clause-stored : goal.returns-clause-stored
unfolding stored_record
returns-clause-stored c = refl
