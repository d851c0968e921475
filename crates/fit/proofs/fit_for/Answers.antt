-- `fit::fit_for` meets its contract. Assumes nothing.
use mathlib.Core.Path.{refl, sym, ap, ◌∙◌}
use Rattle.frame.proofs.Given.{answer_first, answer_next}
use Rattle.frame.proofs.Held.{sides_held}
use Rattle.markers.specs.Layout.{no_layout}
use Rattle.fit.proofs.Cases.{fitted_last}
use Rattle.fit.specs.Fits.{fitted_for, unfitted}
use Rattle.fit.specs.Promises.{fit_for_tests, fitted_as, fitted_by}
use Rattle.fit.proofs.fit_for.Goals as goal

pub returns-in-Err : goal.returns-in-Err
unfolding fit_for_tests fitted_by fitted_as
returns-in-Err c = c.unfitted.ensures ∙ ap unfitted c.in-Err.ensures.1 ∙ ap fitted_as (answer_first _ _ _ _ c.in-Err.ensures.0)

pub returns-then-sides_wrong : goal.returns-then-sides_wrong
unfolding fit_for_tests fitted_by fitted_as
returns-then-sides_wrong c =
    c.unfitted-then-sides_wrong.ensures
    ∙ ap fitted_as (answer_next _ _ _ _ c.in-Ok.ensures.0 (answer_first _ _ _ _ (sym c.sides_wrong.ensures ∙ c.if-sides_wrong.true)))

pub returns-then-no_layout : goal.returns-then-no_layout
unfolding fit_for_tests fitted_by fitted_as
returns-then-no_layout c =
    let layout = ap no_layout (sym c.in-Ok.ensures.1) ∙ sym c.no_layout.ensures ∙ c.if-no_layout.true in
    c.unfitted-then-no_layout.ensures
    ∙ ap fitted_as
    (answer_next _ _ _ _ c.in-Ok.ensures.0
    (answer_next _ _ _ _ (sym c.sides_wrong.ensures ∙ c.if-sides_wrong.false) (answer_first _ _ _ _ layout)))

pub fitted-requires : goal.fitted-requires
fitted-requires c = sides_held _ _ (sym c.sides_wrong.ensures ∙ c.if-sides_wrong.false)

pub returns : goal.returns
unfolding fit_for_tests fitted_by
returns c =
    let a = c.args in
    let layout = ap no_layout (sym c.in-Ok.ensures.1) ∙ sym c.no_layout.ensures ∙ c.if-no_layout.false in
    c.fitted.ensures
    ∙ ap (λ f. fitted_for a.w a.h f a.points a.k) c.in-Ok.ensures.1
    ∙ fitted_last a.w a.h a.frame a.points a.k
    ∙ ap fitted_as
    (answer_next _ _ _ _ c.in-Ok.ensures.0
    (answer_next _ _ _ _ (sym c.sides_wrong.ensures ∙ c.if-sides_wrong.false) (answer_next _ _ _ _ layout refl)))
