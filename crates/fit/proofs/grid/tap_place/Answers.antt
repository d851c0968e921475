-- `fit::grid::tap_place` meets its contract. Assumes nothing.
use Rattle.fit.specs.Grid.{tap_place}
use Rattle.fit.proofs.grid.tap_place.Goals as goal

pub returns : goal.returns
unfolding tap_place
returns c = cc
