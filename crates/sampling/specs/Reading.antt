-- `bilinear`, which truncates. Where a reading is taken, its colour, and whether its position is inside the picture
-- (requirements, 23) are separate definitions. Assumes nothing.
use Rattle.std.specs.Prelude.{ℕ, ◌+◌, ◌-◌, min, Bool, ◌&&◌, Float}
use Rattle.std.specs.Float.Ieee.{lt, le}
use Rattle.float.specs.Floats.{◌⊕◌, ◌⊖◌, ◌⊗◌, f64, d64, floor_of, as_u8, as_usize, clamp_of}
use Rattle.frame.specs.Image.{Image, px}
use Rattle.frame.specs.declared.Point.{Point}
use Rattle.frame.specs.declared.Rgb.{Rgb}
use Rattle.sampling.specs.declared.Neighbours.{Neighbours}
use Rattle.sampling.specs.declared.Sample.{Sample}

-- ---- where: along a side, `part` of the way from the pixel `first` to the pixel `next`

-- a coordinate in a side of n pixels, from the first pixel's centre, held to the last one's; a NaN stays
abbrev pub held : ℕ → Float → Float
held n t = clamp_of (f64 0) (f64 n ⊖ f64 1) (t ⊖ d64 5 10)

unfoldable pub neighbours_of : ℕ → Float → Neighbours
neighbours_of n t =
    let c = held n t in
    let first = as_usize (floor_of c) in
    record { first = first; next = min (first + 1) (n - 1); part = c ⊖ f64 first }

-- ---- the colour there

-- four bytes blended by the fractions tx and ty: rows first, held to 0..255, truncated
unfoldable pub blended : Float → Float → ℕ → ℕ → ℕ → ℕ → ℕ
blended tx ty a b c d =
    let top = f64 a ⊗ (f64 1 ⊖ tx) ⊕ f64 b ⊗ tx in
    let bot = f64 c ⊗ (f64 1 ⊖ tx) ⊕ f64 d ⊗ tx in
    as_u8 (clamp_of (f64 0) (f64 255) (top ⊗ (f64 1 ⊖ ty) ⊕ bot ⊗ ty))

unfoldable pub colour_at : Image → Neighbours → Neighbours → Rgb
colour_at img across down =
    let a = px img across.first down.first in
    let b = px img across.next down.first in
    let c = px img across.first down.next in
    let d = px img across.next down.next in
    let blend = blended across.part down.part in
    record {
      r = blend a.r b.r c.r d.r;
      g = blend a.g b.g c.g d.g;
      b = blend a.b b.b c.b d.b;
    }

-- `bilinear`: the colour at the point p
unfoldable pub bilinear : Image → Point → Rgb
bilinear img p = colour_at img (neighbours_of img.w p.x) (neighbours_of img.h p.y)

-- ---- whether it is inside

-- [23.2] "whether the position was inside: x and y at least 0, x below w, y below h, and a NaN is not inside": as
-- floats, so that −0 is inside, and w, h and an infinity are not. A NaN compares false
unfoldable pub inside : ℕ → ℕ → Float → Float → Bool
inside w h x y = le (f64 0) x && le (f64 0) y && lt x (f64 w) && lt y (f64 h)

-- [23.2] "its answer should tell, beside the colour, whether the position was inside"
unfoldable pub sample_at : Image → Point → Sample
sample_at img p = record { colour = bilinear img p; inside = inside img.w img.h p.x p.y }
