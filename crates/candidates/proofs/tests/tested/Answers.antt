-- `candidates::tests::tested` meets its contract. Assumes nothing.
use mathlib.Core.Path.{refl, ◌∙◌}
use Rattle.frame.specs.Image.{image}
use Rattle.frame.proofs.Held.{capture_held}
use Rattle.candidates.proofs.Refusing.{tests_agree}
use Rattle.candidates.proofs.tests.tested.Goals as goal

pub returns-clause-number : goal.returns-clause-number
returns-clause-number c =
    c.picture_tested.ensures.number
    ∙ tests_agree (image _ _ _) _ _ _ _ _ (λ e d. let h = capture_held (image _ _ _) d in (c.areas_short.ensures h.w_most h.h_most, refl))
