-- `candidates::tests::shorter` meets its contract. Assumes nothing.
use Rattle.candidates.specs.Areas.{shorter}
use mathlib.Core.Path.{refl}
use Rattle.candidates.proofs.tests.shorter.Goals as goal

pub returns : goal.returns
unfolding shorter
returns c = refl
