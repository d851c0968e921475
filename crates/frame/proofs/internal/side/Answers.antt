-- `frame::internal::side` meets its contract. Assumes nothing.
use mathlib.Core.Path.{refl}
use Rattle.frame.specs.Refusals.{side}
use Rattle.frame.proofs.internal.side.Goals as goal

pub returns : goal.returns
unfolding side
returns c = refl
