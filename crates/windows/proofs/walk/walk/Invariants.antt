-- The tallies are those of the first j patches, whose boxes are all valid. Assumes nothing.
use mathlib.Core.Path.{◌≡◌}
use mathlib.Core.Bool.{true}
use Rattle.windows.specs.Rectangles.{every_box}
use Rattle.windows.specs.Steps.{tallies}
use Rattle.windows.proofs.walk.walk.Given as goal

abbrev pub invariant-loop-j : goal.invariant-loop-j
invariant-loop-j l =
    record {
      met : l.tallies ≡ tallies l.patches l.j l.windows l.k;
      boxes : every_box l.patches l.j ≡ true;
    }
