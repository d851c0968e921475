-- `apply`, `mat3_mul`, `inverse`, `rms_error`. A matrix is a list of nine by rows. Assumes nothing.
use Rattle.std.specs.Prelude.{Bool, cond, List, [], ◌∷◌, ℕ, ◌+◌, ◌*◌, get_or, Float}
use Rattle.std.specs.Float.{nan}
use Rattle.std.specs.Float.Ieee.{lt}
use Rattle.base.specs.Loops.{table, by_row}
use Rattle.float.specs.Floats.{◌⊕◌, ◌⊖◌, ◌⊗◌, ◌⊘◌, f64, tiny, abs_of, squared}
use Rattle.float.specs.Root.{sqrt_of}
use Rattle.frame.specs.declared.Point.{Point}
use Rattle.frame.specs.declared.Quad.{Quad}
use Rattle.frame.specs.declared.refusals.Refusal.TheVariants.{Singular}
use Rattle.homography.specs.Arithmetic.{Arithmetic, rounded}
use Rattle.homography.specs.Equations.{found, refused}
use Rattle.homography.specs.declared.Homography.{Homography}
use Rattle.homography.specs.declared.Solved.{Solved}

-- entry in row i and column j
abbrev pub at : List Float → ℕ → ℕ → Float
at m i j = get_or m (i * 3 + j) nan

-- row i of a matrix, whose entries are m 0 .. m 8 by rows, times (x, y, 1)
abbrev pub line : {A : Type 0} → Arithmetic A → (ℕ → A) → ℕ → A → A → A
line N m i x y = N.plus (N.plus (N.times (m (i * 3 + 0)) x) (N.times (m (i * 3 + 1)) y)) (m (i * 3 + 2))

-- the entries of a Homography
abbrev pub entries : Homography → ℕ → Float
entries h i = get_or h.m i nan

-- row i times (x, y, 1)
unfoldable pub row_times : Homography → ℕ → Point → Float
row_times h i p = line rounded (entries h) i p.x p.y

-- [10.3] `apply` replaces a |w| below 1e-12 by +1e-12
unfoldable pub divisor : Float → Float
divisor w = cond (lt (abs_of w) tiny) tiny w

unfoldable pub apply : Homography → Point → Point
apply h p =
    let w = divisor (row_times h 2 p) in
    record { x = row_times h 0 p ⊘ w; y = row_times h 1 p ⊘ w }

-- [13.2] `mat3_mul`: entry in column j and row i of the product
abbrev pub product_at : List Float → List Float → ℕ → ℕ → Float
product_at a b j i = at a i 0 ⊗ at b 0 j ⊕ at a i 1 ⊗ at b 1 j ⊕ at a i 2 ⊗ at b 2 j

unfoldable pub mat3_mul : List Float → List Float → List Float
mat3_mul a b = table (by_row 3 (product_at a b)) 9

-- [13.2] `inverse`: the cofactors, transposed
abbrev pub minor : List Float → ℕ → ℕ → ℕ → ℕ → ℕ → ℕ → ℕ → ℕ → Float
minor m a b c d e f g h = at m a b ⊗ at m c d ⊖ at m e f ⊗ at m g h

unfoldable pub adjugate : List Float → List Float
adjugate m =
    minor m 1 1 2 2 1 2 2 1 ∷ minor m 0 2 2 1 0 1 2 2 ∷ minor m 0 1 1 2 0 2 1 1
    ∷ minor m 1 2 2 0 1 0 2 2 ∷ minor m 0 0 2 2 0 2 2 0 ∷ minor m 0 2 1 0 0 0 1 2
    ∷ minor m 1 0 2 1 1 1 2 0 ∷ minor m 0 1 2 0 0 0 2 1 ∷ minor m 0 0 1 1 0 1 1 0
    ∷ []

-- the determinant, along the first row
unfoldable pub determinant : List Float → Float
determinant m = at m 0 0 ⊗ at (adjugate m) 0 0 ⊕ at m 0 1 ⊗ at (adjugate m) 1 0 ⊕ at m 0 2 ⊗ at (adjugate m) 2 0

-- [2.11] 11, `inverse` only: the determinant's absolute value is below 1e-12
unfoldable pub singular : List Float → Bool
singular m = lt (abs_of (determinant m)) tiny

unfoldable pub quotients : List Float → Float → List Float
quotients c d = table (λ i. get_or c i nan ⊘ d) 9

unfoldable pub inverse : Homography → Solved
inverse h =
    cond (singular h.m) (refused Singular) (found (record { m = quotients (adjugate h.m) (determinant h.m) }))

-- [13.2] `rms_error`
abbrev pub apart : Point → Point → Float
apart p q = squared (p.x ⊖ q.x) ⊕ squared (p.y ⊖ q.y)

unfoldable pub rms_error : Quad → Quad → Float
rms_error a b =
    sqrt_of ((f64 0 ⊕ apart a.tl b.tl ⊕ apart a.tr b.tr ⊕ apart a.br b.br ⊕ apart a.bl b.bl)
    ⊘ f64 4)
