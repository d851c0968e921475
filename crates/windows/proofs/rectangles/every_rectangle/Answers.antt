-- `windows::rectangles::every_rectangle` meets its contract. Assumes nothing.
use native.Mathlib.Omega.{arith}
use mathlib.Core.Path.{sym, ap, ◌∙◌}
use Rattle.base.proofs.Every.{every_begin, every_more, every_stops, every_end}
use Rattle.windows.specs.Rectangles.{valid}
use Rattle.windows.proofs.rectangles.every_rectangle.Goals as goal

pub loop-i-init : goal.loop-i-init
loop-i-init c = every_begin _

pub returns-then-not-valid : goal.returns-then-not-valid
returns-then-not-valid c =
    sym (every_stops _ c.loop-i.i c.args.k (omega arith) (sym (c.valid.ensures ∙ ap valid c.rectangle_at.ensures) ∙ c.if-not-valid.true))

pub loop-i-preserved : goal.loop-i-preserved
loop-i-preserved c =
    every_more _ c.loop-i.i c.loop-i.invariant (sym (c.valid.ensures ∙ ap valid c.rectangle_at.ensures) ∙ c.if-not-valid.false)

pub returns : goal.returns
returns c = sym (every_end _ c.loop-i.i _ c.loop-i.invariant (omega arith))
