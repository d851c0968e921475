-- `windows::rectangles::rectangle_at` meets its contract. Assumes nothing.
use mathlib.Core.Path.{refl}
use Rattle.windows.specs.Rectangles.{rectangle_at}
use Rattle.windows.proofs.rectangles.rectangle_at.Goals as goal

pub returns : goal.returns
unfolding rectangle_at
returns c = refl
