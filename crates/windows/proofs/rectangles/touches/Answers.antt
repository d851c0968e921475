-- `windows::rectangles::touches` meets its contract. Assumes nothing.
use mathlib.Core.Path.{refl}
use Rattle.windows.specs.Rectangles.{touches}
use Rattle.windows.proofs.rectangles.touches.Goals as goal

pub returns : goal.returns
unfolding touches
returns c = refl
