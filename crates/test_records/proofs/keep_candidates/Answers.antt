-- A turn stores the next record.
use Rattle.std.proofs.Common.{◌∙◌, refl, arith}
use lib.Ieee.{of_int, of_bits}
use Rattle.base.proofs.Plane.{filled_begin, filled_step, filled_end}
use Rattle.test_records.proofs.keep_candidates.Goals as goal

pub loop-i-init : goal.loop-i-init
unfolding of_int of_bits
loop-i-init c = filled_begin _ _

pub loop-i-preserved : goal.loop-i-preserved
loop-i-preserved c = c.store_candidate.ensures ∙ filled_step _ _ _ _ c.loop-i.invariant refl

pub returns : goal.returns
returns c = filled_end _ _ _ _ c.loop-i.invariant (omega arith)
