-- The mask is filled up to row y. Assumes nothing.
use Prim.Native.Nat.{◌*◌}
use mathlib.Core.Path.{◌≡◌}
use Rattle.base.specs.Loops.{filled}
use Rattle.checkerboard.specs.Board.{square_at}
use Rattle.checkerboard.proofs.internal.draw.Given as goal

abbrev pub invariant-loop-y : goal.invariant-loop-y
invariant-loop-y l = l.mask ≡ filled (square_at l.w) (l.y * l.w) l.fn.mask
