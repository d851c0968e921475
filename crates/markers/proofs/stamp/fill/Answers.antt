-- `markers::stamp::fill` meets its contract. Assumes nothing.
use Rattle.markers.proofs.stamp.fill.Goals as goal

pub returns : goal.returns
returns c = cc
