-- `windows::rectangles::distance` meets its contract. Assumes nothing.
use Rattle.windows.specs.Rectangles.{apart, distance}
use Rattle.windows.proofs.rectangles.distance.Goals as goal

pub returns : goal.returns
unfolding distance apart
returns c = cc
