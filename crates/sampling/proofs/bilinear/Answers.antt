-- `sampling::bilinear` meets its contract: refused by 2, or the reading and whether it is inside. Assumes nothing.
use mathlib.Core.Path.{ap, ◌∙◌}
use Rattle.std.specs.Prelude.{Ok}
use Rattle.std.proofs.lemmas.Result.{err_from_is_err_and}
use Rattle.frame.specs.Refusals.{capture_tests}
use Rattle.frame.proofs.Given.{answer_first, answer_next, answer_none}
use Rattle.sampling.specs.Reading.{sample_at}
use Rattle.sampling.proofs.bilinear.Goals as goal

pub returns-in_err-capture : goal.returns-in_err-capture
unfolding capture_tests
returns-in_err-capture c =
    let p = err_from_is_err_and c.from_residual.result c.from_residual.ensures.1 in
    rw (p.1, p.2, c.in_err-capture.ensures.1) (answer_first _ _ _ _ c.in_err-capture.ensures.0)

pub returns : goal.returns
unfolding capture_tests
returns c =
    ap Ok (c.sample.ensures ∙ ap (λ img. sample_at img (record { x = c.args.x; y = c.args.y })) c.in_ok-capture.ensures.1)
    ∙ answer_next _ _ _ _ c.in_ok-capture.ensures.0 (answer_none _)
