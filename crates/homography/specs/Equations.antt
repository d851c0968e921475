-- The direct linear transform with last entry 1 (Hartley and Zisserman), and `from_points`. Each definition is written
-- once, over any arithmetic N and any reading num of a coordinate as a number of it: over f64 the coordinate itself,
-- over exact numbers its value. Assumes nothing.
use Rattle.std.specs.Prelude.{Bool, cond, List, [], ◌∷◌, ◌++◌, Float, Ok, Err}
use Rattle.float.specs.Floats.{f64}
use Rattle.frame.specs.declared.Point.{Point}
use Rattle.frame.specs.declared.Quad.{Quad}
use Rattle.frame.specs.declared.refusals.Refusal.{Refusal}
use Rattle.frame.specs.declared.refusals.Refusal.TheVariants.{NoHomography}
use Rattle.homography.specs.Arithmetic.{Arithmetic, rounded}
use Rattle.homography.specs.Elimination.{solvable, solution}
use Rattle.homography.specs.declared.Homography.{Homography}
use Rattle.homography.specs.declared.Solved.{Solved}

-- ---- the eight equations: two rows a point, (x, y) going to (u, v)
module _ {A : Type 0} (N : Arithmetic A) where
  -- x, y, 1, 0, 0, 0, −u·x, −u·y | u
  abbrev pub row_u : A → A → A → List A
  row_u x y u =
      x ∷ y ∷ N.one ∷ N.nought ∷ N.nought ∷ N.nought
      ∷ N.times (N.minus u) x ∷ N.times (N.minus u) y ∷ u ∷ []

  -- 0, 0, 0, x, y, 1, −v·x, −v·y | v
  abbrev pub row_v : A → A → A → List A
  row_v x y v =
      N.nought ∷ N.nought ∷ N.nought ∷ x ∷ y ∷ N.one
      ∷ N.times (N.minus v) x ∷ N.times (N.minus v) y ∷ v ∷ []

  module _ (num : Float → A) where
    -- the point p going to q
    abbrev pub rows_over : Point → Point → List A
    rows_over p q = row_u (num p.x) (num p.y) (num q.x) ++ row_v (num p.x) (num p.y) (num q.y)

    unfoldable pub equations_over : Quad → Quad → List A
    equations_over src dst =
        rows_over src.tl dst.tl
        ++ rows_over src.tr dst.tr
        ++ rows_over src.br dst.br
        ++ rows_over src.bl dst.bl

    -- [10.1] the matrix: the eight unknowns, with last entry 1
    unfoldable pub homography_over : Quad → Quad → List A
    homography_over src dst = solution N (equations_over src dst) ++ (N.one ∷ [])

-- .. over f64
abbrev pub itself : Float → Float
itself x = x

abbrev pub row_x : Point → Point → List Float
row_x p q = row_u rounded p.x p.y q.x

abbrev pub row_y : Point → Point → List Float
row_y p q = row_v rounded p.x p.y q.y

unfoldable pub equations : Quad → Quad → List Float
unfolding equations_over
equations src dst = equations_over rounded itself src dst

-- ---- from_points

abbrev pub identity : Homography
identity = record { m = f64 1 ∷ f64 0 ∷ f64 0 ∷ f64 0 ∷ f64 1 ∷ f64 0 ∷ f64 0 ∷ f64 0 ∷ f64 1 ∷ [] }

-- some four points have a homography
unfoldable pub has_homography : Quad → Quad → Bool
has_homography src dst = solvable rounded (equations src dst)

unfoldable pub homography : Quad → Quad → Homography
homography src dst = record { m = homography_over rounded itself src dst }

-- the answer with a matrix, and the one without: the identity stands for it
abbrev pub found : Homography → Solved
found h = record { verdict = Ok tt; h = h }

abbrev pub refused : Refusal → Solved
refused r = record { verdict = Err r; h = identity }

unfoldable pub from_points : Quad → Quad → Solved
from_points src dst = cond (has_homography src dst) (found (homography src dst)) (refused NoHomography)
