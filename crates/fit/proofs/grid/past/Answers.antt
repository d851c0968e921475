-- `fit::grid::past` meets its contract. Assumes nothing.
use mathlib.Core.Path.{refl}
use lib.Ieee.{of_bits, of_int}
use Rattle.fit.proofs.grid.past.Goals as goal

pub returns : goal.returns
unfolding of_bits of_int
returns c = refl
