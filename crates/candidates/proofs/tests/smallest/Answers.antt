-- `candidates::tests::smallest` meets its contract. Assumes nothing.
use mathlib.Core.Path.{refl}
use Rattle.candidates.specs.Areas.{smallest}
use Rattle.candidates.proofs.tests.smallest.Goals as goal

pub returns : goal.returns
unfolding smallest
returns c = refl
