-- `fiducials::pick::pick` meets its contract. Assumes nothing.
use mathlib.Core.Path.{◌≡◌}
use Rattle.base.specs.Loops.{turns}
use Rattle.candidates.specs.Ring.{center_at}
use Rattle.fiducials.specs.Corners.{pick_step}
use Rattle.fiducials.proofs.pick.pick.Given as goal

abbrev pub invariant-loop-i : goal.invariant-loop-i
invariant-loop-i l = l.best ≡ turns l.i (pick_step l.corner (center_at l.candidates)) 0
