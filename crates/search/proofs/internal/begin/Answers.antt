-- `search::internal::begin` meets its contract. Assumes nothing.
use lib.Ieee.{of_int, of_bits}
use Rattle.float.specs.Floats.{f64}
use mathlib.Core.Bool.{false}
use Rattle.search.specs.declared.Stage.{Stage}
use Rattle.search.specs.Turn.{beginning}
use mathlib.Core.Path.{ap}
use Rattle.search.proofs.internal.begin.Goals as goal

pub returns : goal.returns
unfolding beginning of_int of_bits
returns c = ap (λ (z : Stage). record { number = 0; entry = 0; center = f64 0; stage = z; ended = false }) c.begun.ensures
