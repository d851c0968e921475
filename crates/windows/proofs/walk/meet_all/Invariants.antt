-- The first i tallies have met the patch. Assumes nothing.
use mathlib.Core.Path.{◌≡◌}
use lib.ListN.{get_or}
use Rattle.base.specs.Loops.{filled}
use Rattle.windows.specs.Rectangles.{rectangle_at}
use Rattle.windows.specs.Steps.{no_tally, met}
use Rattle.windows.proofs.walk.meet_all.Given as goal

abbrev pub invariant-loop-i : goal.invariant-loop-i
invariant-loop-i l =
    l.tallies ≡ filled (λ i. met (rectangle_at l.windows i) l.b l.j (get_or l.fn.tallies i no_tally)) l.i l.fn.tallies
