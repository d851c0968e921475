-- `frame::internal::cell_held` meets its contract. Assumes nothing.
use mathlib.Core.Path.{refl}
use Rattle.frame.specs.Refusals.{cell_held}
use Rattle.frame.proofs.internal.cell_held.Goals as goal

pub returns : goal.returns
unfolding cell_held
returns c = refl
