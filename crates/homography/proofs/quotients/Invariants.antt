-- `quotients` meets its contract. The loop's invariant: the entries before this one are the quotients. Assumes nothing.
use mathlib.Core.Path.{◌≡◌}
use lib.Ieee.{nan}
use lib.ListN.{get_or}
use Rattle.base.specs.Loops.{filled}
use Rattle.float.specs.Floats.{◌⊘◌}
use Rattle.homography.proofs.quotients.Given as goal

abbrev pub invariant-loop-entry : goal.invariant-loop-entry
invariant-loop-entry l = l.entry-items ≡ filled (λ k. get_or l.fn.c k nan ⊘ l.d) l.entry-index l.fn.c
