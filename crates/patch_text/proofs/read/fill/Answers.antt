-- `patch_text::read::fill` meets its contract. Assumes nothing.
use native.Mathlib.Omega.{arith}
use Rattle.base.proofs.Plane.{filled_begin, filled_step, filled_end}
use Rattle.patch_text.specs.Steps.{pixel_at}
use Rattle.patch_text.proofs.read.fill.Goals as goal

pub loop-i-init : goal.loop-i-init
loop-i-init c = filled_begin _ _

pub loop-i-preserved : goal.loop-i-preserved
unfolding pixel_at
loop-i-preserved c = filled_step _ _ c.loop-i.i c.pixel.result c.loop-i.invariant c.pixel.ensures

pub returns : goal.returns
returns c = filled_end _ _ c.loop-i.i _ c.loop-i.invariant (omega arith)
