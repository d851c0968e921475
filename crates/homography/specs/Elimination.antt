-- `solve8`: Gauss and Jordan's elimination with partial pivoting, over any arithmetic. A matrix of eight rows of nine
-- is a list of 72: entry (r, j) stands at r * 9 + j. Assumes nothing.
use Rattle.std.specs.Prelude.{Bool, true, false, not, ◌&&◌, cond, List, ℕ, ◌+◌, ◌*◌, eqb, get_or, set}
use Rattle.base.specs.Loops.{turns, between, table}
use Rattle.homography.specs.Arithmetic.{Arithmetic}

-- how far the elimination has come
pub record Elimination (A : Type 0) : Type 0 where
  pub going : Bool
  pub matrix : List A

module _ {A : Type 0} (N : Arithmetic A) where
  abbrev pub entry : List A → ℕ → ℕ → A
  entry a r j = get_or a (r * 9 + j) N.outside

  -- [10.2] the earlier row wins equal pivots: from the row col down, a later row only by a larger absolute value
  unfoldable pub better : List A → ℕ → ℕ → ℕ → ℕ
  better a col r p = cond (N.smaller (entry a p col) (entry a r col)) r p

  unfoldable pub pivot_of : List A → ℕ → ℕ
  pivot_of a col = between (col + 1) 8 (better a col) col

  -- [10.2] an absolute pivot below 1e-12 refuses, a NaN pivot does not
  unfoldable pub no_pivot : List A → ℕ → Bool
  no_pivot a col = N.small (entry a (pivot_of a col) col)

  -- rows p and q change places
  abbrev pub swap_at : ℕ → ℕ → ℕ → List A → List A
  swap_at p q j b = set (set b (p * 9 + j) (entry b q j)) (q * 9 + j) (entry b p j)

  unfoldable pub swapped : List A → ℕ → ℕ → List A
  swapped a p q = turns 9 (swap_at p q) a

  -- row r is divided by d, from the column col on
  abbrev pub divide_at : ℕ → A → ℕ → List A → List A
  divide_at r d j b = set b (r * 9 + j) (N.over (entry b r j) d)

  unfoldable pub divided : List A → ℕ → ℕ → A → List A
  divided a r col d = between col 9 (divide_at r d) a

  -- f times the pivot row is taken from row r, from the column col on
  abbrev pub reduce_at : ℕ → ℕ → A → ℕ → List A → List A
  reduce_at r col f j b = set b (r * 9 + j) (N.less (entry b r j) (N.times f (entry b col j)))

  unfoldable pub reduced : List A → ℕ → ℕ → List A
  reduced a r col =
      cond (eqb r col) a
      (cond (N.same (entry a r col) N.nought) a
      (between col 9 (reduce_at r col (entry a r col)) a))

  abbrev pub clear_at : ℕ → ℕ → List A → List A
  clear_at col r b = reduced b r col

  -- one column: the pivot row comes to its place and is divided by its pivot, and every other row is reduced
  unfoldable pub cleared : List A → ℕ → List A
  cleared a col =
      let b = swapped a col (pivot_of a col) in
      turns 8 (clear_at col) (divided b col col (entry b col col))

  unfoldable pub eliminate : ℕ → Elimination A → Elimination A
  eliminate col s =
      cond (s.going && not (no_pivot s.matrix col))
      (record { going = true; matrix = cleared s.matrix col })
      (record { going = false; matrix = s.matrix })

  unfoldable pub eliminated : List A → Elimination A
  eliminated a = turns 8 eliminate (record { going = true; matrix = a })

  unfoldable pub solvable : List A → Bool
  solvable a = (eliminated a).going

  -- the last column
  unfoldable pub last_column : List A → List A
  last_column a = table (λ i. entry a i 8) 8

  unfoldable pub solution : List A → List A
  solution a = last_column (eliminated a).matrix
