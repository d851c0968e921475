-- The marked examples M1 to M6, by computation. Assumes nothing.
use mathlib.Core.Path.{◌≡◌, refl}
use Prim.Native.Nat.{ℕ}
use lib.Ieee.{Float, of_int, add, sub, div}
use Rattle.float.specs.Floats.{f64}
use Rattle.frame.specs.Refusals.{lowest_of, frame_outside, side, cell_held}
use Rattle.frame.specs.declared.FrameSpec.{FrameSpec}
use Rattle.frame.specs.declared.Point.{Point}
use Rattle.markers.specs.Layout.{marker_size, quiet_zone, margin_for, marker, no_layout, origins, marker_centers}
use Rattle.markers.specs.Promises.{layout_tests}

-- M1 cell 9: 72, 12, 96. M2 cell 10: 80, 13, 106. M3 cell 13: 96, 16, 128.
pub m1 : (marker_size 9 ≡ 72) × (quiet_zone 9 ≡ 12) × (margin_for 9 ≡ 96)
unfolding marker_size quiet_zone margin_for
m1 = (refl, refl, refl)

pub m2 : (marker_size 10 ≡ 80) × (quiet_zone 10 ≡ 13) × (margin_for 10 ≡ 106)
unfolding marker_size quiet_zone margin_for
m2 = (refl, refl, refl)

pub m3 : (marker_size 13 ≡ 96) × (quiet_zone 13 ≡ 16) × (margin_for 13 ≡ 128)
unfolding marker_size quiet_zone margin_for
m3 = (refl, refl, refl)

abbrev pub frame : ℕ → ℕ → ℕ → ℕ → FrameSpec
frame width height cell margin = record { width = width; height = height; cell = cell; margin = margin }

abbrev pub at : Float → Float → Point
at x y = record { x = x; y = y }

-- M4 frame 192 by 192, cell 1, margin 48: centres 24 and 168
pub m4 : marker_centers (frame 192 192 1 48) ≡ record { tl = at (f64 24) (f64 24); tr = at (f64 168) (f64 24); br = at (f64 168) (f64 168); bl = at (f64 24) (f64 168) }
unfolding marker_centers origins marker quiet_zone marker_size of_int add sub div
m4 = refl

pub m4_accepted : lowest_of (layout_tests (frame 192 192 1 48)) ≡ 0
unfolding lowest_of layout_tests frame_outside side cell_held no_layout marker quiet_zone marker_size
m4_accepted = refl

-- M5 margin 47, M6 width 191: refusal 5
pub m5 : lowest_of (layout_tests (frame 192 192 1 47)) ≡ 5
unfolding lowest_of layout_tests frame_outside side cell_held no_layout marker quiet_zone marker_size
m5 = refl

pub m6 : lowest_of (layout_tests (frame 191 192 1 48)) ≡ 5
unfolding lowest_of layout_tests frame_outside side cell_held no_layout marker quiet_zone marker_size
m6 = refl
