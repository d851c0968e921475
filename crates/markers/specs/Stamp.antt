-- What `stamp_fiducials` writes: the last rectangle painted over a pixel gives its colour. Assumes nothing.
use Rattle.std.specs.Prelude.{ℕ, ◌*◌, Bool, cond, ◌&&◌, List, [], ◌∷◌, ◌++◌, leb, ltb, Float}
use Rattle.base.specs.Loops.{filled}
use Rattle.float.specs.Floats.{◌⊕◌, ◌⊖◌, ◌⊗◌, ◌⊘◌, f64, round_of, as_usize, max_of}
use Rattle.frame.specs.Image.{Image, px, black, white, byte_of}
use Rattle.markers.specs.Layout.{quiet_zone, marker, origins}
use Rattle.frame.specs.declared.FrameSpec.{FrameSpec}
use Rattle.frame.specs.declared.Quad.{Quad}
use Rattle.frame.specs.declared.Rgb.{Rgb}

-- a square of one colour: its left end, its top and its side
pub record Square : Type 0 where
  pub x : Float
  pub y : Float
  pub side : Float
  pub colour : Rgb

abbrev pub square : Float → Float → Float → Rgb → Square
square x y side c = record { x = x; y = y; side = side; colour = c }

-- `fill` rounds the ends, holds them to 0 and up, and makes them whole numbers
abbrev pub end : Float → ℕ
end t = as_usize (max_of (round_of t) (f64 0))

-- the square covers the pixel in column x and row y ([13.1] clipped to the picture: only its pixels are asked)
unfoldable pub covers : Square → ℕ → ℕ → Bool
covers s x y = leb (end s.x) x && ltb x (end (s.x ⊕ s.side)) && leb (end s.y) y && ltb y (end (s.y ⊕ s.side))

-- the four squares of one marker of side m and quiet zone q whose top left corner is at (x, y), in painting order:
-- quiet zone, black ring, white ring, black dot (a unit is a sixth of m)
unfoldable pub bullseye : Float → Float → Float → Float → List Square
bullseye m q x y =
    let u = m ⊘ f64 6 in
    square (x ⊖ q) (y ⊖ q) (m ⊕ f64 2 ⊗ q) white
    ∷ square x y m black
    ∷ square (x ⊕ u) (y ⊕ u) (f64 4 ⊗ u) white
    ∷ square (x ⊕ f64 2 ⊗ u) (y ⊕ f64 2 ⊗ u) (f64 2 ⊗ u) black
    ∷ []

-- .. and of four markers, in their order
unfoldable pub bullseyes : Float → Float → Quad → List Square
bullseyes m q o =
    bullseye m q o.tl.x o.tl.y ++ bullseye m q o.tr.x o.tr.y ++ bullseye m q o.br.x o.br.y
    ++ bullseye m q o.bl.x o.bl.y

unfoldable pub squares : FrameSpec → List Square
squares f = bullseyes (f64 (marker f)) (f64 (quiet_zone f.cell)) (origins f)

-- a later square paints over an earlier one
unfoldable pub painted : List Square → ℕ → ℕ → Rgb → Rgb
painted [] x y c = c
painted (s ∷ l) x y c = painted l x y (cond (covers s x y) s.colour c)

-- the bytes of a picture once the squares are painted: the last that covers a pixel gives its colour, else it is what
-- it was
unfoldable pub with_squares : List Square → Image → List ℕ
with_squares l img = filled (byte_of img.w (λ x y. painted l x y (px img x y))) (3 * img.w * img.h) img.bytes

unfoldable pub stamped : Image → FrameSpec → List ℕ
stamped img f = with_squares (squares f) img
