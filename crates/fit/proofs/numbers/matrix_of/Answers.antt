-- `fit::numbers::matrix_of` meets its contract. Assumes nothing.
use Rattle.fit.specs.Numbers.{matrix_of}
use mathlib.Core.Path.{ap}
use Rattle.fit.proofs.numbers.matrix_of.Goals as goal

pub returns : goal.returns
unfolding matrix_of
returns c = ap (λ m. record { m = m }) c.copy_from_slice.ensures.after
