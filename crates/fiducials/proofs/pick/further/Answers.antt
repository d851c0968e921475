-- `fiducials::pick::further` meets its contract. Assumes nothing.
use mathlib.Core.Path.{ap, ◌∙◌}
use Rattle.candidates.specs.Ring.{center_at}
use Rattle.fiducials.specs.Answers.{key_of}
use Rattle.fiducials.proofs.Answering.{step_taken, step_left}
use Rattle.fiducials.proofs.pick.further.Goals as goal

pub returns-then-a-b : goal.returns-then-a-b
returns-then-a-b c =
    let a = c.args in
    step_taken a.corner (center_at a.candidates.now) a.i a.best c.key-a.result c.key-b.result
    (c.key-a.ensures ∙ ap (key_of a.corner) c.center_at.ensures)
    (c.key-b.ensures ∙ ap (key_of a.corner) c.center_at-2.ensures) c.if-a-b.true

pub returns-else-a-b : goal.returns-else-a-b
returns-else-a-b c =
    let a = c.args in
    step_left a.corner (center_at a.candidates.now) a.i a.best c.key-a.result c.key-b.result
    (c.key-a.ensures ∙ ap (key_of a.corner) c.center_at.ensures)
    (c.key-b.ensures ∙ ap (key_of a.corner) c.center_at-2.ensures) c.if-a-b.false
