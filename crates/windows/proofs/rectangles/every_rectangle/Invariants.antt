-- Assumes nothing.
use mathlib.Core.Path.{◌≡◌}
use mathlib.Core.Bool.{true}
use Rattle.windows.specs.Rectangles.{every_rectangle}
use Rattle.windows.proofs.rectangles.every_rectangle.Given as goal

abbrev pub invariant-loop-i : goal.invariant-loop-i
invariant-loop-i l = every_rectangle l.windows l.i ≡ true
