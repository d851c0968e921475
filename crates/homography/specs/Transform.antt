-- What the eight equations are for (Hartley and Zisserman, Multiple View Geometry, 4.1): over exact numbers they hold
-- exactly when the matrix takes each of the four points to its own target. The equations, the elimination and the
-- lines of the matrix are the definitions that the contracts cite over f64. Assumes nothing.
use Rattle.std.specs.Prelude.{◌≡◌, List, map, Bool, true, ◌↔◌, ℕ, zero, suc, ◌^◌, ◌≤◌, ◌<◌, Float, length, get_or}
use Rattle.std.specs.Float.Ieee.Exact.{HasValue}
use Rattle.float.specs.Floats.{◌⊘◌}
use Rattle.frame.specs.declared.Point.{Point}
use Rattle.frame.specs.declared.Quad.{Quad}
use Rattle.homography.specs.declared.Homography.{Homography}
use Rattle.homography.specs.Arithmetic.{Arithmetic, rounded, CommutativeRing, Field}
use Rattle.homography.specs.Elimination.{entry, solvable, solution}
use Rattle.homography.specs.Equations.{equations_over, homography_over, equations}
use Rattle.homography.specs.Homography.{line, entries, divisor, apply}
use Rattle.homography.specs.Rationals.{ℚ, 0ℚ, 1ℚ, exact, AllFinite, value_of}

module _ {A : Type 0} (N : Arithmetic A) where
  -- t 0 + t 1 + .. + t (n − 1)
  unfoldable pub total : (ℕ → A) → ℕ → A
  total t zero = N.nought
  total t (suc n) = N.plus (total t n) (t n)

  -- row r holds for h: its eight coefficients times h 0 .. h 7 add up to its last entry
  abbrev pub RowHolds : List A → (ℕ → A) → ℕ → Type 0
  RowHolds a h r = total (λ j. N.times (entry N a r j) (h j)) 8 ≡ entry N a r 8

  abbrev pub EightHold : List A → (ℕ → A) → Type 0
  EightHold a h = (r : ℕ) → r < 8 → RowHolds a h r

  module _ (num : Float → A) (m : ℕ → A) where
    -- The matrix m, nine entries by rows, takes p to q in homogeneous coordinates: (X, Y, W) with X = u·W and Y = v·W,
    -- cross-multiplied, so that nothing is divided. A p with X = Y = W = 0 satisfies them too, whatever q is: such a
    -- matrix is singular, and no quotient X / W is then q.
    abbrev pub Takes : Point → Point → Type 0
    Takes p q =
        (line N m 0 (num p.x) (num p.y) ≡ N.times (num q.x) (line N m 2 (num p.x) (num p.y)))
        × (line N m 1 (num p.x) (num p.y) ≡ N.times (num q.y) (line N m 2 (num p.x) (num p.y)))

    -- .. and each of the four to its own target
    abbrev pub TakesEach : Quad → Quad → Type 0
    TakesEach src dst =
        Takes src.tl dst.tl × Takes src.tr dst.tr
        × Takes src.br dst.br × Takes src.bl dst.bl

-- [10.1] the eight equations are the direct linear transform with last entry 1: over exact numbers, of the 72 entries
-- of the equations, the eight rows hold for a matrix with last entry 1 exactly when it takes each source to its own
-- target. num reads a coordinate. proofs/Transform shows it.
abbrev pub TransformIs : Type 1
TransformIs =
    (A : Type 0) (N : Arithmetic A) → CommutativeRing N
    → (num : Float → A) (src dst : Quad) (m : ℕ → A) → m 8 ≡ N.one
    → EightHold N (equations_over N num src dst) m ↔ TakesEach N num m src dst

-- The rationals are such numbers, and every finite f64 is one of them: so it holds for the exact values of any finite
-- coordinates and any rational matrix.
abbrev pub RationalTransformIs : Type 0
RationalTransformIs =
    (prefers : ℚ → ℚ → Bool) (refuses : ℚ → Bool)
    → let N = exact prefers refuses in
    (src dst : Quad) (m : ℕ → ℚ) → m 8 ≡ 1ℚ
    → EightHold N (equations_over N value_of src dst) m ↔ TakesEach N value_of m src dst

-- ---- the elimination

-- Over a field, where no pivot is refused, every row holds for the answer. proofs/Elimination shows it.
abbrev pub EliminationSolves : Type 1
EliminationSolves =
    (A : Type 0) (N : Arithmetic A) → Field N → (a : List A) → length a ≡ 72 → solvable N a ≡ true
    → EightHold N a (λ j. get_or (solution N a) j N.outside)

-- So the matrix that `from_points` makes, without rounding, takes each source to its own target. proofs/Homographies
-- shows it.
abbrev pub HomographyTakes : Type 1
HomographyTakes =
    (A : Type 0) (N : Arithmetic A) → Field N → (num : Float → A) (src dst : Quad)
    → solvable N (equations_over N num src dst) ≡ true
    → TakesEach N num (λ i. get_or (homography_over N num src dst) i N.outside) src dst

-- .. among them the rationals, whichever row is preferred as pivot and whichever pivots are refused, if 0 is
abbrev pub RationalHomographyTakes : Type 0
RationalHomographyTakes =
    (prefers : ℚ → ℚ → Bool) (refuses : ℚ → Bool) → refuses 0ℚ ≡ true
    → let N = exact prefers refuses in
    (src dst : Quad) → solvable N (equations_over N value_of src dst) ≡ true
    → TakesEach N value_of (λ i. get_or (homography_over N value_of src dst) i 0ℚ) src dst

-- Where W is not 0, the quotients are the target.
abbrev pub QuotientsAre : Type 1
QuotientsAre =
    (A : Type 0) (N : Arithmetic A) → Field N → (num : Float → A) (m : ℕ → A) (p q : Point) → Takes N num m p q
    → let w = line N m 2 (num p.x) (num p.y) in
    ¬ (w ≡ N.nought)
    → (N.over (line N m 0 (num p.x) (num p.y)) w ≡ num q.x)
    × (N.over (line N m 1 (num p.x) (num p.y)) w ≡ num q.y)

-- ---- `apply` and the layout of the answer

-- `apply` divides the first two lines of the matrix by the third, which `divisor` keeps away from 0. They are the
-- lines of `Takes`. proofs/Transform shows this and the next.
abbrev pub AppliesLines : Type 0
AppliesLines =
    (h : Homography) (p : Point)
    → let w = divisor (line rounded (entries h) 2 p.x p.y) in
    apply h p
    ≡ record { x = line rounded (entries h) 0 p.x p.y ⊘ w; y = line rounded (entries h) 1 p.x p.y ⊘ w }

-- the matrix of `Takes`: unknown i is entry i, and the ninth is 1
abbrev pub LaidOutByRows : Type 1
LaidOutByRows =
    (A : Type 0) (N : Arithmetic A) (num : Float → A) (src dst : Quad)
    → ((i : ℕ) → i < 8
    → get_or (homography_over N num src dst) i N.outside
    ≡ get_or (solution N (equations_over N num src dst)) i N.outside)
    × (get_or (homography_over N num src dst) 8 N.outside ≡ N.one)

-- ---- The float equations have the values of the exact ones

-- the float x is the whole number n or −n exactly, and not large
pub record Whole (x : Float) : Type 0 where
  pub sign : Bool
  pub size : ℕ
  pub value : HasValue x sign size 1
  pub small : size ≤ 2 ^ 26

abbrev pub WholePoint : Point → Type 0
WholePoint p = Whole p.x × Whole p.y

abbrev pub WholeQuad : Quad → Type 0
WholeQuad q = WholePoint q.tl × WholePoint q.tr × WholePoint q.br × WholePoint q.bl

-- Where the coordinates are whole and at most 2 ^ 26, whose products an f64 holds, no entry of the float equations is
-- rounded. proofs/Image shows it.
abbrev pub EquationsAre : Type 0
EquationsAre =
    (prefers : ℚ → ℚ → Bool) (refuses : ℚ → Bool) (src dst : Quad) → WholeQuad src → WholeQuad dst
    → AllFinite (equations src dst)
    × (map value_of (equations src dst) ≡ equations_over (exact prefers refuses) value_of src dst)
