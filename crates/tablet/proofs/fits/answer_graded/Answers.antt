-- `tablet::fits::answer_graded` meets its contract. Assumes nothing.
use mathlib.Core.Path.{sym, ap, ◌∙◌}
use mathlib.Core.List.{[], ◌∷◌}
use Rattle.book.proofs.Tested.{value_given}
use Rattle.fit.specs.Grid.{score_of}
use Rattle.fit.specs.Numbers.{grade_number}
use Rattle.fit.specs.declared.Grade.{Grade}
use Rattle.tablet.specs.Layouts.{outside_cell, grade_numbers}
use Rattle.tablet.specs.Slices.{written}
use Rattle.tablet.proofs.fits.answer_graded.Goals as goal

pub returns-in-Ok-clause-graded : goal.returns-in-Ok-clause-graded
unfolding grade_numbers
returns-in-Ok-clause-graded c = λ tests g e.
    let l = c.args.grade.now in
    c.store.ensures
    ∙ (λ i. written (c.grade_number.ensures i ∷ c.outside_cell.ensures i ∷ []) l)
    ∙ ap (λ (x : Grade). written (grade_number x ∷ outside_cell x ∷ []) l) (value_given tests g (sym e ∙ c.in-Ok.is))

pub returns-in-Ok-clause-scored : goal.returns-in-Ok-clause-scored
returns-in-Ok-clause-scored c = λ tests g e.
    let l = c.args.score.now in
    c.store-in-Ok.ensures
    ∙ ap (λ s. written (s ∷ []) l) c.score_of.ensures
    ∙ ap (λ (x : Grade). written (score_of x ∷ []) l) (value_given tests g (sym e ∙ c.in-Ok.is))
