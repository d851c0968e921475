-- The grid score's test of a tap over the answer of `bilinear` (requirements, 23). proofs/Taps shows what is stated.
-- Assumes nothing.
use Rattle.std.specs.Prelude.{ℕ, ◌≡◌, Bool, true, not, ◌&&◌, ◌||◌, Float}
use Rattle.std.specs.Float.Ieee.{lt, le, is_nan}
use Rattle.float.specs.Floats.{f64}
use Rattle.frame.specs.Image.{Image}
use Rattle.frame.specs.declared.FrameSpec.{FrameSpec}
use Rattle.sampling.specs.Reading.{sample_at}
use Rattle.fit.specs.declared.GeometryFit.{GeometryFit}
use Rattle.fit.specs.Grid.{tap_place, tap_outside}

-- a coordinate is past the ends of a side of n pixels, and it is within them; a NaN is neither
abbrev pub past : ℕ → Float → Bool
past n t = lt t (f64 0) || le (f64 n) t

abbrev pub within : ℕ → Float → Bool
within n t = le (f64 0) t && lt t (f64 n)

-- [23.4] "a NaN coordinate alone": one is a NaN, and the other is a NaN too or within its side
unfoldable pub nan_alone : ℕ → ℕ → Float → Float → Bool
nan_alone w h x y = (is_nan x && (is_nan y || within h y)) || (is_nan y && within w x)

-- [23.3, 23.4] a tap is outside where the answer of `bilinear` there says that it is not inside, "except that a NaN
-- coordinate alone puts no tap outside there, as before": `tap_outside`, by which the grade is defined, stands as before
abbrev pub OutsideByAnswer : Type 0
OutsideByAnswer =
    (img : Image) (f : FrameSpec) (fit : GeometryFit) (c r i : ℕ)
    → tap_outside img f fit c r i
    ≡ (not (sample_at img (tap_place f fit c r i)).inside
    && not (nan_alone img.w img.h (tap_place f fit c r i).x (tap_place f fit c r i).y))

-- [23.4] "the other coordinate is still tested": with one a NaN the tap is outside exactly where the other one is past
-- the ends of its side
abbrev pub OtherTested : Type 0
OtherTested =
    (img : Image) (f : FrameSpec) (fit : GeometryFit) (c r i : ℕ)
    → (is_nan (tap_place f fit c r i).x ≡ true → tap_outside img f fit c r i ≡ past img.h (tap_place f fit c r i).y)
    × (is_nan (tap_place f fit c r i).y ≡ true → tap_outside img f fit c r i ≡ past img.w (tap_place f fit c r i).x)
