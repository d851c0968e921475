-- Pictures: w, h and the bytes, three to a pixel, by rows (image.rs); BLACK and WHITE (palette.rs). Assumes nothing.
use Rattle.std.specs.Prelude.{ℕ, zero, suc, ◌+◌, ◌*◌, ◌/◌, ◌%◌, List, Bool, cond, ◌&&◌, ◌||◌, leb, ltb, get_or, set, Float}
use Rattle.std.specs.Float.Ieee.{lt, le}
use Rattle.base.specs.Loops.{by_row, filled}
use Rattle.float.specs.Floats.{f64}
use Rattle.frame.specs.declared.Rgb.{Rgb}

pub record Image : Type 0 where
  pub w : ℕ
  pub h : ℕ
  pub bytes : List ℕ

abbrev pub image : ℕ → ℕ → List ℕ → Image
image w h bytes = record { w = w; h = h; bytes = bytes }

abbrev pub byte_at : Image → ℕ → ℕ
byte_at img i = get_or img.bytes i 0

-- `px`: the colour of the pixel in column x and row y
unfoldable pub px : Image → ℕ → ℕ → Rgb
px img x y =
    let i = (y * img.w + x) * 3 in
    record { r = byte_at img i; g = byte_at img (i + 1); b = byte_at img (i + 2) }

abbrev pub black : Rgb
black = record { r = 0; g = 0; b = 0 }

abbrev pub white : Rgb
white = record { r = 255; g = 255; b = 255 }

-- channel 0, 1 or 2 of a colour
unfoldable pub channel : ℕ → Rgb → ℕ
channel zero c = c.r
channel (suc zero) c = c.g
channel (suc (suc n)) c = c.b

-- byte i of a picture whose pixel in column x and row y has the colour f x y
abbrev pub byte_of : ℕ → (ℕ → ℕ → Rgb) → ℕ → ℕ
byte_of w f i = channel (i % 3) (by_row w f (i / 3))

-- `set`: the bytes once the pixel in column x and row y has the colour c
unfoldable pub with_pixel : Image → ℕ → ℕ → Rgb → List ℕ
with_pixel img x y c =
    let i = (y * img.w + x) * 3 in
    set (set (set img.bytes i c.r) (i + 1) c.g) (i + 2) c.b

-- `fill_rect`: the pixel lies in the rectangle of the given width and height whose top left pixel is in column x0 and
-- row y0
unfoldable pub in_rect : ℕ → ℕ → ℕ → ℕ → ℕ → ℕ → Bool
in_rect x0 y0 width height x y = leb x0 x && ltb x (x0 + width) && leb y0 y && ltb y (y0 + height)

-- .. and the bytes once the rectangle has the colour c (clipped: only pixels of the picture are asked)
unfoldable pub with_rect : Image → ℕ → ℕ → ℕ → ℕ → Rgb → List ℕ
with_rect img x0 y0 width height c =
    filled (byte_of img.w (λ x y. cond (in_rect x0 y0 width height x y) c (px img x y))) (3 * img.w * img.h)
    img.bytes

-- [11.4] a place is outside when x < 0, y < 0, x ≥ w or y ≥ h; a NaN coordinate compares false
unfoldable pub outside : ℕ → ℕ → Float → Float → Bool
outside w h x y = lt x (f64 0) || lt y (f64 0) || le (f64 w) x || le (f64 h) y
