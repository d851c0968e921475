-- `search::stages::entries` meets its contract. Assumes nothing.
use native.Mathlib.Omega.{arith}
use Rattle.base.proofs.Arith.{from_two}
use Rattle.search.specs.Stages.{entries}
use Rattle.search.proofs.Entries.{later_length}
use Rattle.search.proofs.stages.entries.Goals as goal

pub returns-in_default : goal.returns-in_default
returns-in_default c = from_two entries _ later_length _ (omega arith) (omega arith)
