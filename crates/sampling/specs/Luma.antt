-- Luma (requirements, 6.1 and 20). Assumes nothing.
use Rattle.std.specs.Prelude.{ℕ, ◌+◌, ◌*◌, List, Float}
use Rattle.std.specs.Float.{binary32}
use Rattle.std.specs.Float.Ieee.{add, mul}
use Rattle.base.specs.Loops.{table}
use Rattle.float.specs.Floats.{f32, d32}
use Rattle.frame.specs.Image.{Image, byte_at}

-- [6.1] luma is f32: 0.299·r + 0.587·g + 0.114·b, left to right; [20.2] of a pixel's three bytes
unfoldable pub luma_of : ℕ → ℕ → ℕ → Float
luma_of r g b =
    add binary32 (add binary32 (mul binary32 (d32 299 1000) (f32 r)) (mul binary32 (d32 587 1000) (f32 g)))
    (mul binary32 (d32 114 1000) (f32 b))

-- [20.3] the plane holds what `luma` gives of each pixel's three bytes: pixel i's entry, and all
abbrev pub luma_at : Image → ℕ → Float
luma_at img i = luma_of (byte_at img (3 * i)) (byte_at img (3 * i + 1)) (byte_at img (3 * i + 2))

unfoldable pub luma_plane : Image → List Float
luma_plane img = table (luma_at img) (img.w * img.h)
