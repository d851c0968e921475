-- The grid score (requirements, 11). Assumes nothing.
use Rattle.std.specs.Prelude.{ℕ, zero, suc, ◌+◌, ◌*◌, ◌/◌, ◌%◌, Bool, cond, true, ltb, List, get_or, Float}
use Rattle.std.specs.Float.{nan, inf}
use Rattle.base.specs.Loops.{turns, by_row}
use Rattle.float.specs.Floats.{◌⊕◌, ◌⊖◌, ◌⊗◌, ◌⊘◌, f64, d64, squared, sum_of}
use Rattle.frame.specs.Image.{Image, outside}
use Rattle.frame.specs.Frame.{cols, rows, cell_x, cell_y}
use Rattle.homography.specs.Homography.{apply}
use Rattle.radial.specs.Lens.{distort}
use Rattle.sampling.specs.Reading.{bilinear}
use Rattle.frame.specs.declared.FrameSpec.{FrameSpec}
use Rattle.frame.specs.declared.Point.{Point}
use Rattle.frame.specs.declared.Rgb.{Rgb}
use Rattle.fit.specs.declared.GeometryFit.{GeometryFit}
use Rattle.fit.specs.declared.Grade.{Grade}
use Rattle.fit.specs.declared.Grade.TheVariants.{Score, Outside, TooFew}

-- [12.7] where a fit puts a canonical point: its matrix (`apply`) and then its lens (`distort`)
unfoldable pub placed : GeometryFit → Point → Point
placed fit p = distort fit.radial (apply fit.h p)

-- [11.1] every third row and column of cells
unfoldable pub across : FrameSpec → ℕ
across f = (cols f + 2) / 3

unfoldable pub down : FrameSpec → ℕ
down f = (rows f + 2) / 3

-- [11.1] nine taps: tap i of the cell in column c and row r is in column i % 3 and row i / 3 of 0.3, 0.5, 0.7
unfoldable pub tap_share : ℕ → Float
tap_share zero = d64 3 10
tap_share (suc zero) = d64 5 10
tap_share (suc (suc n)) = d64 7 10

unfoldable pub tap_place : FrameSpec → GeometryFit → ℕ → ℕ → ℕ → Point
tap_place f fit c r i =
    placed fit (record {
      x = f64 (cell_x f c) ⊕ tap_share (i % 3) ⊗ f64 f.cell;
      y = f64 (cell_y f r) ⊕ tap_share (i / 3) ⊗ f64 f.cell;
    })

-- [11.4] a tap is outside when x < 0, y < 0, x ≥ w or y ≥ h; a NaN coordinate compares false
unfoldable pub tap_outside : Image → FrameSpec → GeometryFit → ℕ → ℕ → ℕ → Bool
tap_outside img f fit c r i = outside img.w img.h (tap_place f fit c r i).x (tap_place f fit c r i).y

-- the luma of the reading at a tap, in f64
abbrev pub luma64 : Rgb → Float
luma64 p = d64 299 1000 ⊗ f64 p.r ⊕ d64 587 1000 ⊗ f64 p.g ⊕ d64 114 1000 ⊗ f64 p.b

unfoldable pub tap : Image → FrameSpec → GeometryFit → ℕ → ℕ → ℕ → Float
tap img f fit c r i = luma64 (bilinear img (tap_place f fit c r i))

-- the numbers of a list
abbrev pub listed : List Float → ℕ → Float
listed a i = get_or a i nan

-- the mean of n numbers, and the mean of the squares of their distances from a number
unfoldable pub mean : (ℕ → Float) → ℕ → Float
mean v n = sum_of v n ⊘ f64 n

unfoldable pub variance : (ℕ → Float) → ℕ → Float → Float
variance v n m = sum_of (λ i. squared (v i ⊖ m)) n ⊘ f64 n

-- a sampled cell, the x-th of the y-th sampled row
abbrev pub cell_tap : Image → FrameSpec → GeometryFit → ℕ → ℕ → ℕ → Float
cell_tap img f fit x y = tap img f fit (3 * x) (3 * y)

unfoldable pub cell_mean : Image → FrameSpec → GeometryFit → ℕ → ℕ → Float
cell_mean img f fit x y = mean (cell_tap img f fit x y) 9

unfoldable pub cell_variance : Image → FrameSpec → GeometryFit → ℕ → ℕ → Float
cell_variance img f fit x y = variance (cell_tap img f fit x y) 9 (cell_mean img f fit x y)

-- the Rust's Fisher ratio of n cells with the given means: their variance over the mean variance within them, which
-- counts as one more
unfoldable pub fisher_of : (ℕ → Float) → Float → ℕ → Float
fisher_of means within n = variance means n (mean means n) ⊘ (within ⊘ f64 n ⊕ f64 1)

-- .. of the n sampled cells, by rows
unfoldable pub fisher : Image → FrameSpec → GeometryFit → ℕ → Float
fisher img f fit n =
    fisher_of (by_row (across f) (cell_mean img f fit)) (sum_of (by_row (across f) (cell_variance img f fit)) n) n

-- [11.2] the first tap outside the picture ends the tap, column and row walks together
pub data Walk : Type 0 where
  Going : Walk
  Ended : ℕ → Walk

abbrev pub on_going : Walk → Walk → Walk
on_going next Going = next
on_going next (Ended cell) = Ended cell

-- [11.3, 19.3] the number row·cols + column
abbrev pub tap_step : Image → FrameSpec → GeometryFit → ℕ → ℕ → ℕ → Walk → Walk
tap_step img f fit y x i s =
    on_going (cond (tap_outside img f fit (3 * x) (3 * y) i) (Ended (3 * y * cols f + 3 * x)) Going) s

unfoldable pub cell_step : Image → FrameSpec → GeometryFit → ℕ → ℕ → Walk → Walk
cell_step img f fit y x s = turns 9 (tap_step img f fit y x) s

unfoldable pub row_step : Image → FrameSpec → GeometryFit → ℕ → Walk → Walk
row_step img f fit y s = turns (across f) (cell_step img f fit y) s

unfoldable pub walked : Image → FrameSpec → GeometryFit → Walk
walked img f fit = turns (down f) (row_step img f fit) Going

-- [11.3] the grade is a score with its float, too few cells (under 16), or outside with a cell (which one, by meaning:
-- specs/First); [11.5] outside goes before too few
abbrev pub grade_from : Walk → Grade → Grade
grade_from (Ended cell) g = Outside cell
grade_from Going g = g

-- [11.3] .. of n cells without a tap outside
abbrev pub grade_inside : ℕ → Float → Grade
grade_inside n score = cond (ltb n 16) TooFew (Score score)

unfoldable pub grade_of : Image → FrameSpec → GeometryFit → Grade
grade_of img f fit =
    let n = down f * across f in
    grade_from (walked img f fit) (grade_inside n (fisher img f fit n))

-- [11.5] the Rust's −∞ stands for outside and too few
unfoldable pub score_of : Grade → Float
score_of (Score s) = s
score_of (Outside cell) = inf true
score_of TooFew = inf true
