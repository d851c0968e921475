-- `FrameSpec::cols` meets its contract. Assumes nothing.
use mathlib.Core.Path.{ap, ◌∙◌}
use Rattle.std.specs.Prelude.{Ok}
use Rattle.std.proofs.lemmas.Result.{err_from_is_err_and}
use Rattle.frame.specs.Frame.{cols}
use Rattle.frame.specs.Refusals.{frame_tests}
use Rattle.frame.proofs.Given.{answer_first, answer_next, answer_none}
use Rattle.frame.proofs.FrameSpec.cols.Goals as goal

pub returns-in_err-new : goal.returns-in_err-new
unfolding frame_tests
returns-in_err-new c =
    let p = err_from_is_err_and c.from_residual.result c.from_residual.ensures.1 in
    rw (p.1, p.2, c.in_err-new.ensures.1) (answer_first _ _ _ _ c.in_err-new.ensures.0)

pub returns : goal.returns
unfolding frame_tests
returns c =
    ap Ok (c.cols.ensures ∙ ap cols c.in_ok-new.ensures.1)
    ∙ answer_next _ _ _ _ c.in_ok-new.ensures.0 (answer_none _)
