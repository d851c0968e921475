-- What contracts of private functions cite beside the definitions: the eight equations as they are written row by row,
-- and the unknowns where there are any. Assumes nothing.
use Rattle.std.specs.Prelude.{cond, List, ℕ, ◌+◌, ◌*◌, ◌++◌, take, drop, Float, Option, Some, None}
use Rattle.frame.specs.declared.Point.{Point}
use Rattle.homography.specs.Arithmetic.{rounded}
use Rattle.homography.specs.Elimination.{solvable, solution}
use Rattle.homography.specs.Equations.{row_x, row_y}

unfoldable pub row_set : ℕ → List Float → List Float → List Float
row_set r row a = take (r * 9) a ++ (row ++ drop 9 (drop (r * 9) a))

unfoldable pub point_set : ℕ → Point → Point → List Float → List Float
point_set i p q a = row_set (2 * i + 1) (row_y p q) (row_set (2 * i) (row_x p q) a)

unfoldable pub unknowns : List Float → Option (List Float)
unknowns a = cond (solvable rounded a) (Some (solution rounded a)) None
