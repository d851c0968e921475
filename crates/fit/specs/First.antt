-- Which cell the outside grade names, by meaning (requirements, 19): theorems that a reader can cite, for every capture,
-- frame and fit. proofs/First shows them. Assumes nothing.
use Rattle.std.specs.Prelude.{ℕ, ◌+◌, ◌*◌, ◌/◌, ◌%◌, ◌≤◌, ◌<◌, ◌≡◌, ◌⊎◌, ◌↔◌, T}
use Rattle.frame.specs.Image.{Image}
use Rattle.frame.specs.Frame.{cols, rows}
use Rattle.frame.specs.declared.FrameSpec.{FrameSpec}
use Rattle.fit.specs.declared.GeometryFit.{GeometryFit}
use Rattle.fit.specs.declared.Grade.TheVariants.{Score, Outside, TooFew}
use Rattle.fit.specs.Grid.{tap_outside, grade_of, fisher}
use Rattle.fit.specs.Promises.{sampled_cells}

-- [11.1] a sampled cell: every third row and column of the frame's cells
pub record Sampled (f : FrameSpec) (column row : ℕ) : Type 0 where
  pub third_column : column % 3 ≡ 0
  pub third_row : row % 3 ≡ 0
  pub column_there : column < cols f
  pub row_there : row < rows f

-- [19.2] "that has a tap outside the picture"
pub record HasTapOutside (img : Image) (f : FrameSpec) (fit : GeometryFit) (column row : ℕ) : Type 0 where
  pub tap : ℕ
  pub nine : tap < 9
  pub outside : T (tap_outside img f fit column row tap)

-- [19.2] "by row, then column"
abbrev pub Earlier : (column row column' row' : ℕ) → Type 0
Earlier column row column' row' = (row < row') ⊎ ((row ≡ row') × (column < column'))

-- [19.2] "the first sampled cell by row, then column, that has a tap outside the picture"
pub record FirstOutside (img : Image) (f : FrameSpec) (fit : GeometryFit) (cell : ℕ) : Type 0 where
  pub column : ℕ
  pub row : ℕ
  pub sampled : Sampled f column row
  pub outside : HasTapOutside img f fit column row
  pub none_earlier : (c r : ℕ) → Sampled f c r → Earlier c r column row → HasTapOutside img f fit c r → ⊥
  -- [19.3] "The number for it is row·cols + column, counted over all cells."
  pub number : cell ≡ row * cols f + column

-- [19.2] the outside grade names that cell, and only that one
abbrev pub OutsideIs : Type 0
OutsideIs =
    (img : Image) (f : FrameSpec) (fit : GeometryFit) (cell : ℕ)
    → (grade_of img f fit ≡ Outside cell) ↔ FirstOutside img f fit cell

-- [19.1] only one number is the first cell's, so that a cross at it does not jump between builds
abbrev pub OneFirst : Type 0
OneFirst =
    (img : Image) (f : FrameSpec) (fit : GeometryFit) (a b : ℕ)
    → FirstOutside img f fit a → FirstOutside img f fit b → a ≡ b

-- [19.1] .. and its row and column can be told from the number
abbrev pub NumberTells : Type 0
NumberTells =
    (img : Image) (f : FrameSpec) (fit : GeometryFit) (cell : ℕ) (o : FirstOutside img f fit cell)
    → (cell / cols f ≡ o.row) × (cell % cols f ≡ o.column)

-- [11.5] outside goes before too few: one sampled cell with a tap outside is enough, however few there are ..
abbrev pub SomeOutside : Type 0
SomeOutside =
    (img : Image) (f : FrameSpec) (fit : GeometryFit) (column row : ℕ)
    → Sampled f column row → HasTapOutside img f fit column row → (cell : ℕ) × (grade_of img f fit ≡ Outside cell)

-- .. and [11.3] where none has, the grade is too few cells (under 16) or a score
abbrev pub NoneOutside : Type 0
NoneOutside =
    (img : Image) (f : FrameSpec) (fit : GeometryFit)
    → ((column row : ℕ) → Sampled f column row → HasTapOutside img f fit column row → ⊥)
    → (sampled_cells f < 16 → grade_of img f fit ≡ TooFew)
    × (16 ≤ sampled_cells f → grade_of img f fit ≡ Score (fisher img f fit (sampled_cells f)))
