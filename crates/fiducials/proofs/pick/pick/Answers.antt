-- `fiducials::pick::pick` meets its contract. Assumes nothing.
use native.Mathlib.Omega.{arith}
use Prim.Native.Nat.{◌≤◌, ◌*◌}
use mathlib.Core.Path.{◌∙◌}
use lib.ListN.{length}
use Rattle.base.proofs.Turns.{turns_begin, turns_step, turns_end}
use Rattle.fiducials.specs.Corners.{pick}
use Rattle.fiducials.proofs.Answering.{upto}
use Rattle.fiducials.proofs.pick.pick.Goals as goal

pub loop-i-init : goal.loop-i-init
loop-i-init c = turns_begin _ _

pub further-best-requires : goal.further-best-requires
further-best-requires c =
    let room : 4 * c.args.k ≤ length c.args.candidates.now = c.requires in
    let t = c.loop-i-test.true in
    let u : c.loop-i.best ≤ c.loop-i.i = upto _ _ _ _ c.loop-i.invariant in
    (omega arith, omega arith)

pub loop-i-preserved : goal.loop-i-preserved
loop-i-preserved c = c.further-best.ensures ∙ turns_step _ _ _ c.loop-i.invariant

pub returns : goal.returns
unfolding pick
returns c = turns_end _ _ _ _ c.loop-i.invariant (omega arith)
