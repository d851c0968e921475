-- `set_point` meets its contract: its two rows. Assumes nothing.
use mathlib.Core.Path.{ap, ◌∙◌}
use lib.Ieee.{of_bits, of_int}
use Rattle.homography.specs.Inner.{point_set, row_set}
use Rattle.homography.proofs.set_point.Goals as goal

pub returns : goal.returns
unfolding point_set of_bits of_int
returns c = c.set_row-2.ensures ∙ ap (row_set _ _) c.set_row.ensures
