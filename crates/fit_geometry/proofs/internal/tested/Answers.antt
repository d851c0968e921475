-- `fit_geometry::internal::tested` meets its contract. Assumes nothing.
use mathlib.Core.Path.{refl, ◌∙◌}
use Rattle.frame.specs.Image.{image}
use Rattle.candidates.proofs.Refusing.{tests_agree}
use Rattle.fit_geometry.proofs.PastTests.{short_is}
use Rattle.fit_geometry.proofs.internal.tested.Goals as goal

pub returns-clause-number : goal.returns-clause-number
returns-clause-number c =
    c.picture_tested.ensures.number
    ∙ tests_agree (image _ _ _) _ _ _ _ _ (λ e d. (short_is (image _ _ _) _ _ _ d c.areas_short.ensures (c.means_short.ensures e), refl))
