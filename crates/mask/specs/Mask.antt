-- Integral and mask (requirements, 6). Assumes nothing.
use Rattle.std.specs.Prelude.{ℕ, zero, suc, ◌+◌, ◌*◌, ◌-◌, ◌/◌, min, max, Bool, cond, List, get_or, Float}
use Rattle.std.specs.Float.{nan, binary32}
use Rattle.std.specs.Float.Ieee.{sub, lt}
use Rattle.base.specs.Loops.{turns, table, by_row}
use Rattle.float.specs.Floats.{◌⊕◌, ◌⊖◌, ◌⊘◌, f64, f32, narrowed, widened}
use Rattle.frame.specs.Image.{Image}
use Rattle.markers.specs.Layout.{marker}
use Rattle.sampling.specs.Luma.{luma_plane}
use Rattle.frame.specs.declared.FrameSpec.{FrameSpec}

-- [6.2] integral and row sums are f64: the sum of the first x pixels of row y, from the left ([4.2] widening is exact)
abbrev pub row_step : List Float → ℕ → ℕ → ℕ → Float → Float
row_step luma w y x s = s ⊕ widened (get_or luma (y * w + x) nan)

unfoldable pub row_sum : List Float → ℕ → ℕ → ℕ → Float
row_sum luma w y x = turns x (row_step luma w y) (f64 0)

-- [6.2] the integral's first row and column are 0; any other entry is the one above it plus its row's sum
unfoldable pub integral_at : List Float → ℕ → ℕ → ℕ → Float
integral_at luma w x zero = f64 0
integral_at luma w zero (suc y) = f64 0
integral_at luma w (suc x) (suc y) = integral_at luma w (suc x) y ⊕ row_sum luma w y (suc x)

-- entry i of the integral plane, whose rows are w + 1 long
abbrev pub integral_entry : List Float → ℕ → ℕ → Float
integral_entry luma w = by_row (w + 1) (integral_at luma w)

-- [6.4] the radius is m/3 held to 8..min(w,h)/4, whole divisions; m is `marker_layout`'s
unfoldable pub radius : ℕ → ℕ → FrameSpec → ℕ
radius w h f = max 8 (min (min w h / 4) (marker f / 3))

-- [6.6] the box is clipped at the picture: its ends along a side of length n, the upper one not counted
abbrev pub lower : ℕ → ℕ → ℕ
lower r x = x - r

abbrev pub upper : ℕ → ℕ → ℕ → ℕ
upper r n x = min n (x + r + 1)

-- [6.5] the mean luma of the box around column x and row y, narrowed to f32; `at` is the integral by column and row
unfoldable pub box_mean : (ℕ → ℕ → Float) → ℕ → ℕ → ℕ → ℕ → ℕ → Float
box_mean at w h r x y =
    let x0 = lower r x in
    let x1 = upper r w x in
    let y0 = lower r y in
    let y1 = upper r h y in
    narrowed ((at x1 y1 ⊖ at x1 y0 ⊖ at x0 y1 ⊕ at x0 y0) ⊘ f64 ((x1 - x0) * (y1 - y0)))

-- [6.5] dark: luma < mean − 8, in f32
unfoldable pub is_dark : List Float → ℕ → ℕ → ℕ → ℕ → ℕ → Bool
is_dark luma w h r x y = lt (get_or luma (y * w + x) nan) (sub binary32 (box_mean (integral_at luma w) w h r x y) (f32 8))

-- [6.3] the mask is 1 where dark and 0 elsewhere
abbrev pub dark_entry : List Float → ℕ → ℕ → ℕ → ℕ → ℕ
dark_entry luma w h r = by_row w (λ x y. cond (is_dark luma w h r x y) 1 0)

abbrev pub mask_entry : Image → FrameSpec → ℕ → ℕ
mask_entry img f = dark_entry (luma_plane img) img.w img.h (radius img.w img.h f)

unfoldable pub mask_plane : Image → FrameSpec → List ℕ
mask_plane img f = table (mask_entry img f) (img.w * img.h)
