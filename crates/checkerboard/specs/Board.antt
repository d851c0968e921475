-- The checkerboard (requirements, 22). Assumes nothing.
use Rattle.std.specs.Prelude.{ℕ, ◌+◌, ◌*◌, ◌/◌, ◌%◌, cond, List, eqb}
use Rattle.base.specs.Loops.{table, by_row}

-- [22.3] 1 (dark) where column plus row is even, else 0
unfoldable pub square : ℕ → ℕ → ℕ
square x y = cond (eqb ((x + y) % 2) 0) 1 0

-- pixel i of rows of w
unfoldable pub square_at : ℕ → ℕ → ℕ
square_at w i = by_row w square i

-- the mask of w by h pixels
abbrev pub board : ℕ → ℕ → List ℕ
board w h = table (square_at w) (w * h)

-- [22.1] ⌈w·h/2⌉, the patch records that are reserved for a mask of w by h pixels
abbrev pub reserved : ℕ → ℕ → ℕ
reserved w h = (w * h + 1) / 2
