-- `patch_text::read::lettered` meets its contract. Assumes nothing.
use native.Mathlib.Omega.{arith}
use mathlib.Core.Path.{sym, ◌∙◌}
use Rattle.base.proofs.Every.{every_begin, every_more, every_stops, every_end}
use Rattle.patch_text.specs.Steps.{placed_at}
use Rattle.patch_text.proofs.read.lettered.Goals as goal

pub loop-k-init : goal.loop-k-init
loop-k-init c = every_begin _

pub returns-then-not-placed : goal.returns-then-not-placed
unfolding placed_at
returns-then-not-placed c =
    sym (every_stops (placed_at c.args.text.now c.args.w) c.loop-k.k _ (omega arith) (sym c.placed.ensures ∙ c.if-not-placed.true))

pub loop-k-preserved : goal.loop-k-preserved
unfolding placed_at
loop-k-preserved c =
    every_more (placed_at c.args.text.now c.args.w) c.loop-k.k c.loop-k.invariant (sym c.placed.ensures ∙ c.if-not-placed.false)

pub returns : goal.returns
returns c = sym (every_end _ c.loop-k.k _ c.loop-k.invariant (omega arith))
