-- A turn stores the next record.
use Rattle.std.proofs.Common.{◌∙◌, refl, arith}
use Rattle.base.proofs.Plane.{filled_begin, filled_step, filled_end}
use Rattle.test_records.proofs.keep_patches.Goals as goal

pub loop-j-init : goal.loop-j-init
loop-j-init c = filled_begin _ _

pub loop-j-preserved : goal.loop-j-preserved
loop-j-preserved c = c.store_patch.ensures ∙ filled_step _ _ _ _ c.loop-j.invariant refl

pub returns : goal.returns
returns c = filled_end _ _ _ _ c.loop-j.invariant (omega arith)
