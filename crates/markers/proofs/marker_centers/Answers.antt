-- `markers::marker_centers` meets its contract. Assumes nothing.
use mathlib.Core.Path.{sym, ap, ◌∙◌}
use Rattle.std.specs.Prelude.{Ok}
use Rattle.std.proofs.lemmas.Result.{err_from_is_err_and}
use Rattle.frame.proofs.Given.{answer_first, answer_next, answer_none}
use Rattle.markers.specs.Layout.{no_layout, marker_centers}
use Rattle.markers.specs.Promises.{layout_tests}
use Rattle.markers.proofs.marker_centers.Goals as goal

pub returns-in_err-frame : goal.returns-in_err-frame
unfolding layout_tests
returns-in_err-frame c =
    let p = err_from_is_err_and c.from_residual.result c.from_residual.ensures.1 in
    rw (p.1, p.2, c.in_err-frame.ensures.1) (answer_first _ _ _ _ c.in_err-frame.ensures.0)

pub returns-then-no_layout : goal.returns-then-no_layout
unfolding layout_tests
returns-then-no_layout c =
    answer_next _ _ _ _ c.in_ok-frame.ensures.0
    (answer_first _ _ _ _ (ap no_layout (sym c.in_ok-frame.ensures.1) ∙ sym c.no_layout.ensures ∙ c.if-no_layout.true))

pub returns : goal.returns
unfolding layout_tests
returns c =
    ap Ok (c.centers.ensures ∙ ap marker_centers c.in_ok-frame.ensures.1)
    ∙ answer_next _ _ _ _ c.in_ok-frame.ensures.0
    (answer_next _ _ _ _ (ap no_layout (sym c.in_ok-frame.ensures.1) ∙ sym c.no_layout.ensures ∙ c.if-no_layout.false) (answer_none _))
