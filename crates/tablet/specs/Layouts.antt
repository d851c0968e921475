-- In which order numbers stand in a slice (host/include/tablet.h). Assumes nothing.
use Rattle.std.specs.Prelude.{cond, List, [], ◌∷◌, ◌++◌, ℕ, ◌*◌, Float}
use Rattle.candidates.specs.Areas.{smallest}
use Rattle.fit.specs.Promises.{sampled_cells}
use Rattle.fit.specs.Numbers.{at, grade_number}
use Rattle.frame.specs.declared.FrameSpec.{FrameSpec}
use Rattle.frame.specs.declared.Point.{Point}
use Rattle.frame.specs.declared.Quad.{Quad}
use Rattle.sampling.specs.declared.Sample.{Sample}
use Rattle.radial.specs.declared.Radial.{Radial}
use Rattle.candidates.specs.declared.Lengths.{Lengths}
use Rattle.fiducials.specs.declared.Places.{Places}
use Rattle.fit.specs.declared.Grade.{Grade}
use Rattle.fit.specs.declared.Grade.TheVariants.{Score, Outside, TooFew}

-- the frame's four numbers in the order in which a call is handed them
abbrev pub frame : ℕ → ℕ → ℕ → ℕ → FrameSpec
frame width height cell margin = record { width = width; height = height; cell = cell; margin = margin }

-- ---- what is handed in

-- "x, y of TL, TR, BR, BL"
unfoldable pub quad_of : List Float → Quad
quad_of l =
    record {
      tl = record { x = at l 0; y = at l 1 };
      tr = record { x = at l 2; y = at l 3 };
      br = record { x = at l 4; y = at l 5 };
      bl = record { x = at l 6; y = at l 7 };
    }

-- "k, cx, cy, norm"
unfoldable pub lens_of : List Float → Radial
lens_of l = record { k = at l 0; cx = at l 1; cy = at l 2; norm = at l 3 }

-- ---- results

unfoldable pub point_numbers : Point → List Float
point_numbers p = p.x ∷ p.y ∷ []

unfoldable pub quad_numbers : Quad → List Float
quad_numbers q = q.tl.x ∷ q.tl.y ∷ q.tr.x ∷ q.tr.y ∷ q.br.x ∷ q.br.y ∷ q.bl.x ∷ q.bl.y ∷ []

-- "red, green, blue, and 1 where the position was inside the picture, else 0"
unfoldable pub colour_numbers : Sample → List ℕ
colour_numbers s = s.colour.r ∷ s.colour.g ∷ s.colour.b ∷ cond s.inside 1 0 ∷ []

-- the outside cell, 0 where there is none
unfoldable pub outside_cell : Grade → ℕ
outside_cell (Score s) = 0
outside_cell (Outside cell) = cell
outside_cell TooFew = 0

unfoldable pub grade_numbers : Grade → List ℕ
grade_numbers g = grade_number g ∷ outside_cell g ∷ []

-- the smallest lengths of the areas of a look at the picture
unfoldable pub area_lengths : Lengths → List ℕ
area_lengths l =
    l.luma ∷ l.integral ∷ l.mask ∷ l.seen ∷ l.waiting ∷ l.patches ∷ l.candidates ∷ l.blob_index ∷ []

-- "Every smallest length": capture, areas, means, canonical image
unfoldable pub length_numbers : ℕ → ℕ → FrameSpec → List ℕ
length_numbers w h f = 3 * w * h ∷ (area_lengths (smallest w h) ++ (sampled_cells f ∷ 3 * f.width * f.height ∷ []))

-- "Entries of the counts": patches, candidates, the most pixels waiting
unfoldable pub list_numbers : ℕ → ℕ → ℕ → List ℕ
list_numbers n k waited = n ∷ k ∷ waited ∷ []

-- .. and the four corners' places
unfoldable pub place_numbers : Places → List ℕ
place_numbers s = s.tl ∷ s.tr ∷ s.br ∷ s.bl ∷ []
