-- `warp_with`: [12.7] the reading is the colour that `bilinear` gives in the capture where the fit's matrix (`apply`)
-- and then its lens (`distort`) take (column + 0.5, row + 0.5); [23.5] and how many positions are not inside the
-- picture. Assumes nothing.
use Rattle.std.specs.Prelude.{ℕ, ◌+◌, ◌*◌, ◌/◌, ◌%◌, Bool, cond, List}
use Rattle.base.specs.Loops.{turns, filled}
use Rattle.float.specs.Floats.{◌⊕◌, f64, d64}
use Rattle.frame.specs.Image.{Image, byte_of, channel}
use Rattle.sampling.specs.Reading.{bilinear, inside}
use Rattle.fit.specs.Grid.{placed}
use Rattle.frame.specs.declared.FrameSpec.{FrameSpec}
use Rattle.frame.specs.declared.Point.{Point}
use Rattle.frame.specs.declared.Rgb.{Rgb}
use Rattle.fit.specs.declared.GeometryFit.{GeometryFit}

-- where the fit puts the canonical pixel in column x and row y, and its colour there
unfoldable pub pixel_place : GeometryFit → ℕ → ℕ → Point
pixel_place fit x y = placed fit (record { x = f64 x ⊕ d64 5 10; y = f64 y ⊕ d64 5 10 })

unfoldable pub reading : Image → GeometryFit → ℕ → ℕ → Rgb
reading img fit x y = bilinear img (pixel_place fit x y)

-- byte i of row y
unfoldable pub row_byte : Image → GeometryFit → ℕ → ℕ → ℕ
row_byte img fit y i = channel (i % 3) (reading img fit (i / 3) y)

-- the whole canonical image
unfoldable pub warped : Image → FrameSpec → GeometryFit → List ℕ → List ℕ
warped img f fit canonical = filled (byte_of f.width (reading img fit)) (3 * f.width * f.height) canonical

-- the position of the canonical pixel in column x and row y is inside the picture
unfoldable pub inside_at : Image → GeometryFit → ℕ → ℕ → Bool
inside_at img fit x y = inside img.w img.h (pixel_place fit x y).x (pixel_place fit x y).y

-- [23.5] "the number of canonical pixels whose position was not inside, NaN counted": of row y, and of all rows. What
-- they come to: specs/Beyond
abbrev pub count_beyond : Image → GeometryFit → ℕ → ℕ → ℕ → ℕ
count_beyond img fit y x n = n + cond (inside_at img fit x y) 0 1

unfoldable pub row_beyond : Image → FrameSpec → GeometryFit → ℕ → ℕ
row_beyond img f fit y = turns f.width (count_beyond img fit y) 0

unfoldable pub beyond : Image → FrameSpec → GeometryFit → ℕ
beyond img f fit = turns f.height (λ y n. n + row_beyond img f fit y) 0
