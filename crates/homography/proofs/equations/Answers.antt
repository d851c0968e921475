-- `equations` meets its contract: four points set one after the other. Assumes nothing.
use mathlib.Core.Path.{ap, ◌∙◌}
use lib.Ieee.{of_bits, of_int}
use Rattle.homography.proofs.Rows.{rows_set}
use Rattle.homography.specs.Inner.{point_set}
use Rattle.homography.proofs.equations.Goals as goal

pub returns : goal.returns
unfolding of_bits of_int
returns c =
    c.set_point-4.ensures
    ∙ ap (point_set 3 _ _) (c.set_point-3.ensures
    ∙ ap (point_set 2 _ _) (c.set_point-2.ensures
    ∙ ap (point_set 1 _ _) c.set_point.ensures))
    ∙ rows_set _ _
