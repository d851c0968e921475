-- `quotients` meets its contract. The loop's invariant: the entries before this one are the quotients. Assumes nothing.
use mathlib.Core.Path.{sym, ap, ◌∙◌}
use native.Mathlib.Omega.{arith}
use lib.Ieee.{nan}
use lib.ListN.{length, get_or}
use Rattle.float.specs.Floats.{◌⊘◌}
use Rattle.base.proofs.Plane.{filled_begin, filled_step, filled_end, filled_past, length_filled}
use Rattle.base.proofs.Table.{filled_whole}
use Rattle.homography.specs.Homography.{quotients}
use Rattle.homography.proofs.quotients.Goals as goal

pub loop-entry-init : goal.loop-entry-init
loop-entry-init c = filled_begin _ _

pub loop-entry-preserved : goal.loop-entry-preserved
loop-entry-preserved c =
    let l = c.loop-entry in
    let d = c.args.d in
    filled_step _ _ l.entry-index _ l.invariant
    (ap (λ b. get_or b l.entry-index nan ⊘ d) l.invariant ∙ ap (λ x. x ⊘ d) (filled_past _ c.args.c _ _ nan (omega arith)))

pub returns : goal.returns
unfolding quotients
returns c =
    let l = c.loop-entry in
    filled_end _ _ _ _ l.invariant (omega arith)
    ∙ filled_whole _ 9 c.args.c (sym (ap length l.invariant ∙ length_filled _ _ _) ∙ c.loop-entry-test.array_long)
