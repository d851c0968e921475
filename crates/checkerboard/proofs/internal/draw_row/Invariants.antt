-- The mask is filled up to column x of the row. Assumes nothing.
use Prim.Native.Nat.{ℕ, ◌+◌, ◌*◌}
use mathlib.Core.List.{List}
use mathlib.Core.Path.{◌≡◌}
use Rattle.base.specs.Loops.{filled}
use Rattle.checkerboard.specs.Board.{square_at}
use Rattle.checkerboard.proofs.internal.draw_row.Given as goal

abbrev pub invariant-loop-x : goal.invariant-loop-x
invariant-loop-x v =
    (l : List ℕ) → v.fn.mask ≡ filled (square_at v.w) (v.y * v.w) l → v.mask ≡ filled (square_at v.w) (v.y * v.w + v.x) l
