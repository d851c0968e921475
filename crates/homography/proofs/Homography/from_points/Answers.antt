-- `Homography::from_points` meets its contract, by whether `solve8` found the unknowns. Assumes nothing.
use mathlib.Core.Path.{sym, ap, ◌∙◌}
use Rattle.homography.specs.Inner.{unknowns}
use Rattle.homography.proofs.Ends.{matrix, points_found, points_refused}
use Rattle.homography.proofs.Homography.from_points.Goals as goal

pub returns-in-Some : goal.returns-in-Some
returns-in-Some c =
    c.found.ensures
    ∙ ap matrix (c.from_mat.ensures ∙ c.with_one.ensures)
    ∙ points_found _ _ _ (sym c.in-Some.is ∙ c.solve8.ensures ∙ ap unknowns c.equations.ensures)

pub returns-in-None : goal.returns-in-None
returns-in-None c = c.refused.ensures ∙ points_refused _ _ (sym c.in-None.is ∙ c.solve8.ensures ∙ ap unknowns c.equations.ensures)
