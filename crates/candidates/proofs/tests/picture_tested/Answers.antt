-- `candidates::tests::picture_tested` meets its contract. Assumes nothing.
use mathlib.Core.Path.{sym, ap, ◌∙◌}
use Rattle.std.proofs.lemmas.Result.{err_from_is_err_and}
use Rattle.frame.proofs.Lowest.{lowest_first, lowest_next, lowest_none}
use Rattle.markers.specs.Layout.{no_layout}
use Rattle.candidates.specs.Areas.{picture_tests}
use Rattle.candidates.proofs.tests.picture_tested.Goals as goal

pub returns-in_err-frame-clause-number : goal.returns-in_err-frame-clause-number
unfolding picture_tests
returns-in_err-frame-clause-number c =
    let p = err_from_is_err_and c.from_residual.result c.from_residual.ensures.1 in
    rw (p.1, p.2, c.in_err-frame.ensures.1) (sym (lowest_first _ _ _ c.in_err-frame.ensures.0))

pub returns-in_err-capture-clause-number : goal.returns-in_err-capture-clause-number
unfolding picture_tests
returns-in_err-capture-clause-number c =
    let p = err_from_is_err_and c.from_residual-in_err-capture.result c.from_residual-in_err-capture.ensures.1 in
    rw (p.1, p.2, c.in_err-capture.ensures.1) (sym (lowest_next _ _ _ c.in_ok-frame.ensures.0 ∙ lowest_first _ _ _ c.in_err-capture.ensures.0))

pub returns-then-short-clause-number : goal.returns-then-short-clause-number
unfolding picture_tests
returns-then-short-clause-number c =
    sym (lowest_next _ _ _ c.in_ok-frame.ensures.0 ∙ lowest_next _ _ _ c.in_ok-capture.ensures.0 ∙ lowest_first _ _ _ (cc))

pub returns-then-wrong-clause-number : goal.returns-then-wrong-clause-number
unfolding picture_tests
returns-then-wrong-clause-number c =
    sym (lowest_next _ _ _ c.in_ok-frame.ensures.0 ∙ lowest_next _ _ _ c.in_ok-capture.ensures.0 ∙ lowest_next _ _ _ (cc) ∙ lowest_first _ _ _ (cc))

pub returns-then-no_layout-clause-number : goal.returns-then-no_layout-clause-number
unfolding picture_tests
returns-then-no_layout-clause-number c =
    sym (lowest_next _ _ _ c.in_ok-frame.ensures.0 ∙ lowest_next _ _ _ c.in_ok-capture.ensures.0 ∙ lowest_next _ _ _ (cc)
    ∙ lowest_next _ _ _ (cc)
    ∙ lowest_first _ _ _ (ap no_layout (sym c.in_ok-frame.ensures.1) ∙ sym c.no_layout.ensures ∙ c.if-no_layout.true))

pub returns-then-capture_small-clause-number : goal.returns-then-capture_small-clause-number
unfolding picture_tests
returns-then-capture_small-clause-number c =
    sym (lowest_next _ _ _ c.in_ok-frame.ensures.0 ∙ lowest_next _ _ _ c.in_ok-capture.ensures.0 ∙ lowest_next _ _ _ (cc)
    ∙ lowest_next _ _ _ (cc)
    ∙ lowest_next _ _ _ (ap no_layout (sym c.in_ok-frame.ensures.1) ∙ sym c.no_layout.ensures ∙ c.if-no_layout.false)
    ∙ lowest_first _ _ _ (sym (c.capture_small.ensures _) ∙ c.if-capture_small.true))

pub returns-clause-number : goal.returns-clause-number
unfolding picture_tests
returns-clause-number c =
    sym (lowest_next _ _ _ c.in_ok-frame.ensures.0 ∙ lowest_next _ _ _ c.in_ok-capture.ensures.0 ∙ lowest_next _ _ _ (cc)
    ∙ lowest_next _ _ _ (cc)
    ∙ lowest_next _ _ _ (ap no_layout (sym c.in_ok-frame.ensures.1) ∙ sym c.no_layout.ensures ∙ c.if-no_layout.false)
    ∙ lowest_next _ _ _ (sym (c.capture_small.ensures _) ∙ c.if-capture_small.false) ∙ lowest_none)
