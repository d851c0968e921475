-- A turn writes the next.
use Rattle.std.proofs.Common.{◌≡◌}
use Rattle.base.proofs.Plane.{filled_begin, filled_step}
use Rattle.test_page.specs.Calls.{float_for}
use Rattle.test_page.proofs.fill.Goals as goal

pub loop-k-init : goal.loop-k-init
loop-k-init c = filled_begin _ _

pub loop-k-preserved : goal.loop-k-preserved
loop-k-preserved c =
    let l = c.loop-k in
    let e : c.double.result ≡ float_for c.args.words.now l.k = cc in
    filled_step _ _ l.k _ l.invariant e
