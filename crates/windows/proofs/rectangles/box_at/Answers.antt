-- `windows::rectangles::box_at` meets its contract. Assumes nothing.
use Rattle.windows.specs.Rectangles.{box_at}
use Rattle.windows.proofs.rectangles.box_at.Goals as goal

pub returns : goal.returns
unfolding box_at
returns c = cc
