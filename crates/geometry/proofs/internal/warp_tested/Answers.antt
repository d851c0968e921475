-- `geometry::internal::warp_tested` meets its contract. Assumes nothing.
use mathlib.Core.Path.{sym, ap, ◌∙◌}
use lib.ListN.{length}
use Rattle.std.proofs.lemmas.Result.{err_from_is_err_and}
use Rattle.frame.proofs.Lowest.{lowest_first, lowest_next, lowest_none}
use Rattle.geometry.specs.Promises.{warp_tests, canonical_wrong}
use Rattle.geometry.proofs.internal.warp_tested.Goals as goal

pub returns-in_err-frame-clause-number : goal.returns-in_err-frame-clause-number
unfolding warp_tests
returns-in_err-frame-clause-number c =
    let p = err_from_is_err_and c.from_residual.result c.from_residual.ensures.1 in
    rw (p.1, p.2, c.in_err-frame.ensures.1) (sym (lowest_first _ _ _ c.in_err-frame.ensures.0))

pub returns-in_err-capture-clause-number : goal.returns-in_err-capture-clause-number
unfolding warp_tests
returns-in_err-capture-clause-number c =
    let p = err_from_is_err_and c.from_residual-in_err-capture.result c.from_residual-in_err-capture.ensures.1 in
    rw (p.1, p.2, c.in_err-capture.ensures.1) (sym (lowest_next _ _ _ c.in_ok-frame.ensures.0 ∙ lowest_first _ _ _ c.in_err-capture.ensures.0))

pub returns-then-canonical_wrong-clause-number : goal.returns-then-canonical_wrong-clause-number
unfolding warp_tests canonical_wrong
returns-then-canonical_wrong-clause-number c =
    sym (lowest_next _ _ _ c.in_ok-frame.ensures.0 ∙ lowest_next _ _ _ c.in_ok-capture.ensures.0
    ∙ lowest_first _ _ _ (ap (λ f. canonical_wrong f (length c.args.canonical.now)) (sym c.in_ok-frame.ensures.1) ∙ sym c.canonical_wrong.ensures ∙ c.if-canonical_wrong.true))

pub returns-clause-number : goal.returns-clause-number
unfolding warp_tests canonical_wrong
returns-clause-number c =
    sym (lowest_next _ _ _ c.in_ok-frame.ensures.0 ∙ lowest_next _ _ _ c.in_ok-capture.ensures.0
    ∙ lowest_next _ _ _ (ap (λ f. canonical_wrong f (length c.args.canonical.now)) (sym c.in_ok-frame.ensures.1) ∙ sym c.canonical_wrong.ensures ∙ c.if-canonical_wrong.false)
    ∙ lowest_none)
