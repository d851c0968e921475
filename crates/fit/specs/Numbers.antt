-- A fit and a grade as numbers: in which order they stand in a slice (host/include/tablet.h) and in a book's record.
-- Assumes nothing.
use Rattle.std.specs.Prelude.{List, [], ◌∷◌, ◌++◌, ℕ, get_or, take, Float}
use Rattle.std.specs.Float.{nan}
use Rattle.homography.specs.declared.Homography.{Homography}
use Rattle.radial.specs.declared.Radial.{Radial}
use Rattle.fit.specs.declared.GeometryFit.{GeometryFit}
use Rattle.fit.specs.declared.Grade.{Grade}
use Rattle.fit.specs.declared.Grade.TheVariants.{Score, Outside, TooFew}

abbrev pub at : List Float → ℕ → Float
at l i = get_or l i nan

-- "nine numbers by rows"; [18.4] "nine matrix entries by rows"
unfoldable pub matrix_of : List Float → Homography
matrix_of l = record { m = take 9 l }

unfoldable pub matrix_numbers : List Float → List Float
matrix_numbers m = at m 0 ∷ at m 1 ∷ at m 2 ∷ at m 3 ∷ at m 4 ∷ at m 5 ∷ at m 6 ∷ at m 7 ∷ at m 8 ∷ []

-- "k, cx, cy, norm"; [18.4] the same
unfoldable pub lens_numbers : Radial → List Float
lens_numbers l = l.k ∷ l.cx ∷ l.cy ∷ l.norm ∷ []

-- "a matrix and then a lens: 13 numbers"
unfoldable pub fit_of : List Float → GeometryFit
fit_of l = record { h = matrix_of l; radial = record { k = at l 9; cx = at l 10; cy = at l 11; norm = at l 12 } }

unfoldable pub fit_numbers : GeometryFit → List Float
fit_numbers f = matrix_numbers f.h.m ++ lens_numbers f.radial

-- "Grades"; [18.4] "0 scored, 1 outside, 2 too few"
unfoldable pub grade_number : Grade → ℕ
grade_number (Score s) = 0
grade_number (Outside cell) = 1
grade_number TooFew = 2
