-- `fit::GeometryFit::map` meets its contract. Assumes nothing.
use Rattle.fit.specs.Grid.{placed}
use Rattle.fit.proofs.GeometryFit.map.Goals as goal

pub returns : goal.returns
unfolding placed
returns c = cc
