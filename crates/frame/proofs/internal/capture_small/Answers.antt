-- `frame::internal::capture_small` meets its contract. Assumes nothing.
use mathlib.Core.Path.{refl}
use Rattle.frame.specs.Refusals.{capture_small}
use Rattle.frame.proofs.internal.capture_small.Goals as goal

pub returns : goal.returns
unfolding capture_small
returns c = λ l. refl
