-- The tests of each function rise, so that the number it gives is the lowest by meaning (frame, proofs/Lowest). Assumes nothing.
use mathlib.Core.List.{List}
use Prim.Native.Nat.{ℕ}
use native.Mathlib.Omega.{arith}
use lib.Ieee.{Float}
use Rattle.frame.specs.Image.{Image}
use Rattle.frame.specs.Refusals.{frame_tests, side_tests, capture_tests}
use Rattle.frame.specs.declared.FrameSpec.{FrameSpec}
use Rattle.frame.proofs.Lowest.{Rising}
use Rattle.markers.specs.Promises.{cell_tests}
use Rattle.tablet.specs.Tests.{product_tests, move_tests, inverse_tests, points_tests, error_tests, lens_tests, colour_tests, marker_tests, cells_tests, center_tests}
use Rattle.tablet.specs.Tests.{length_tests, fit_tests, capture_first, mask_first}

module _ (a b d : List Float) where
  pub product_rising : Rising 0 (product_tests a b d)
  product_rising = (omega arith, tt)

  pub move_rising : (n : ℕ) → Rising 0 (move_tests n a b)
  move_rising n = (omega arith, tt)

  pub inverse_rising : Rising 0 (inverse_tests a b)
  inverse_rising = (omega arith, (omega arith, tt))

  pub points_rising : Rising 0 (points_tests a b d)
  points_rising = (omega arith, (omega arith, tt))

  pub error_rising : Rising 0 (error_tests a b d)
  error_rising = (omega arith, tt)

pub lens_rising : (w h : ℕ) (l : List Float) → Rising 0 (lens_tests w h l)
unfolding side_tests
lens_rising w h l = (omega arith, (omega arith, tt))

pub colour_rising : (img : Image) (l : List ℕ) → Rising 0 (colour_tests img l)
unfolding capture_tests
colour_rising img l = (omega arith, (omega arith, tt))

pub marker_rising : (cell : ℕ) (l : List ℕ) → Rising 0 (marker_tests cell l)
unfolding cell_tests
marker_rising cell l = (omega arith, (omega arith, tt))

pub cells_rising : (f : FrameSpec) (l : List ℕ) → Rising 0 (cells_tests f l)
unfolding frame_tests
cells_rising f l = (omega arith, (omega arith, tt))

pub center_rising : (f : FrameSpec) (l : List Float) → Rising 0 (center_tests f l)
center_rising f l = (omega arith, (omega arith, (omega arith, tt)))

pub length_rising : (w h : ℕ) (f : FrameSpec) (l : List ℕ) → Rising 0 (length_tests w h f l)
length_rising w h f l = (omega arith, (omega arith, (omega arith, tt)))

pub fit_rising : (w h : ℕ) (f : FrameSpec) (points : List Float) (k : Float) (l : List Float) → Rising 0 (fit_tests w h f points k l)
fit_rising w h f points k l = (omega arith, (omega arith, (omega arith, (omega arith, (omega arith, tt)))))

pub capture_first_rising : (img : Image) (f : FrameSpec) → Rising 0 (capture_first img f)
capture_first_rising img f = (omega arith, (omega arith, (omega arith, tt)))

pub mask_first_rising : (mask w h : ℕ) → Rising 0 (mask_first mask w h)
mask_first_rising mask w h = (omega arith, (omega arith, tt))
