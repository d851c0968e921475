-- `checkerboard_text::internal::answer` meets its contract. Assumes nothing.
use native.Mathlib.Omega.{arith}
use mathlib.Core.Path.{subst}
use lib.ListN.{length, take}
use Rattle.checkerboard_text.specs.Text.{Answered}
use Rattle.checkerboard_text.proofs.Cut.{cut_answers}
use Rattle.checkerboard_text.proofs.internal.answer.Goals as goal

pub returns-clause-answered_whole : goal.returns-clause-answered_whole
returns-clause-answered_whole c =
    let v = c.answer_text in
    let t = take v.result v.new.out in
    λ b e. cut_answers (length c.args.input.now) (omega arith) b t (subst (λ x. Answered x t) e v.ensures.answered)
