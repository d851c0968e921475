-- The eight rows as they are written one by one, and a matrix as it is filled. Assumes nothing.
use mathlib.Core.Path.{◌≡◌, refl}
use lib.ListN.{replicate}
use Rattle.float.specs.Floats.{f64}
use Rattle.frame.specs.declared.Quad.{Quad}
use Rattle.homography.specs.Equations.{equations}
use Rattle.homography.specs.Inner.{point_set, row_set}

pub rows_set : (src dst : Quad) → point_set 3 src.bl dst.bl (point_set 2 src.br dst.br (point_set 1 src.tr dst.tr (point_set 0
    src.tl dst.tl (replicate 72 (f64 0))))) ≡ equations src dst
unfolding equations point_set row_set
rows_set src dst = refl
