-- `sampling::internal::luma_plane` meets its contract. The loop's invariant: the plane is filled up to i. Assumes nothing.
use native.Mathlib.Omega.{arith}
use mathlib.Core.Path.{refl}
use lib.ListN.{length-set}
use Rattle.base.proofs.Plane.{filled_begin, filled_step}
use Rattle.sampling.proofs.internal.luma_plane.Goals as goal

pub loop-i-init : goal.loop-i-init
loop-i-init c = (filled_begin _ _, omega arith, refl)

pub loop-i-preserved : goal.loop-i-preserved
loop-i-preserved c =
    let l = c.loop-i in
    (filled_step _ _ _ _ l.invariant.0 c.luma.ensures, omega arith, simp length-set l.invariant.2)
