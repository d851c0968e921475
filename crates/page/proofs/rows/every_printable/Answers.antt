-- `page::rows::every_printable` meets its contract. Assumes nothing.
use native.Mathlib.Omega.{arith}
use mathlib.Core.Path.{◌≡◌, sym, ap, ◌∙◌}
use Rattle.page.specs.Text.{row_at}
use Rattle.page.specs.Promises.{row_printable}
use Rattle.base.proofs.Every.{every_begin, every_more, every_stops}
use Rattle.page.proofs.rows.every_printable.Goals as goal

pub loop-i-init : goal.loop-i-init
loop-i-init c = every_begin _

pub returns-then-not-row_printable : goal.returns-then-not-row_printable
returns-then-not-row_printable c =
    let k = c.loop-i in
    let printed : row_printable (row_at c.args.candidates.now k.i) ≡ c.row_printable.result = sym (c.row_printable.ensures ∙ ap row_printable c.row_at.ensures) in
    sym (every_stops _ k.i c.args.count (omega arith) (printed ∙ c.if-not-row_printable.true))

pub loop-i-preserved : goal.loop-i-preserved
loop-i-preserved c =
    let k = c.loop-i in
    let printed : row_printable (row_at c.args.candidates.now k.i) ≡ c.row_printable.result = sym (c.row_printable.ensures ∙ ap row_printable c.row_at.ensures) in
    every_more _ k.i k.invariant (printed ∙ c.if-not-row_printable.false)
