-- `tablet::whole::kept_score` meets its contract. Assumes nothing.
use mathlib.Core.Path.{sym, ap}
use lib.Ieee.{of_bits}
use Rattle.tablet.specs.Whole.{kept_score}
use Rattle.tablet.proofs.whole.kept_score.Goals as goal

pub returns-in-NoHomography : goal.returns-in-NoHomography
unfolding kept_score of_bits
returns-in-NoHomography c = sym (ap kept_score c.in-NoHomography.is)
