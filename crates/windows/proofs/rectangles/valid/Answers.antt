-- `windows::rectangles::valid` meets its contract. Assumes nothing.
use mathlib.Core.Path.{refl}
use Rattle.windows.specs.Rectangles.{valid}
use Rattle.windows.proofs.rectangles.valid.Goals as goal

pub returns : goal.returns
unfolding valid
returns c = refl
