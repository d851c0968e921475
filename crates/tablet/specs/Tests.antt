-- The tests of each function that answers numbers: what is too short, and the public function's own. Assumes nothing.
use Rattle.std.specs.Prelude.{true, not, ◌||◌, List, [], ◌∷◌, ◌++◌, ℕ, ◌*◌, eqb, Float}
use Rattle.frame.specs.Image.{Image}
use Rattle.frame.specs.Refusals.{Check, check, sides_wrong, frame_outside, capture_wrong, frame_tests, side_tests}
use Rattle.frame.specs.Refusals.{capture_tests}
use Rattle.frame.specs.declared.FrameSpec.{FrameSpec}
use Rattle.frame.specs.declared.refusals.Refusal.TheVariants.{FrameOutside, CaptureWrong, AreaShort, NoLayout, NoHomography, Singular}
use Rattle.markers.specs.Promises.{cell_tests}
use Rattle.markers.specs.Layout.{no_layout}
use Rattle.homography.specs.Equations.{has_homography}
use Rattle.homography.specs.Homography.{singular}
use Rattle.fit.specs.Fits.{fits_for}
use Rattle.tablet.specs.Slices.{short}
use Rattle.fit.specs.Numbers.{matrix_of}
use Rattle.tablet.specs.Layouts.{quad_of}

-- `mat3_mul`
abbrev pub product_tests : List Float → List Float → List Float → List Check
product_tests a b result = check AreaShort (short a 9 || short b 9 || short result 9) ∷ []

-- `apply`, `distort`, `undistort`: n numbers say where a point goes
abbrev pub move_tests : ℕ → List Float → List Float → List Check
move_tests n l point = check AreaShort (short l n || short point 2) ∷ []

-- `inverse`
abbrev pub inverse_tests : List Float → List Float → List Check
inverse_tests matrix result = check AreaShort (short matrix 9 || short result 9) ∷ check Singular (singular (matrix_of matrix).m) ∷ []

-- `from_points`
abbrev pub points_tests : List Float → List Float → List Float → List Check
points_tests source target matrix =
    check AreaShort (short source 8 || short target 8 || short matrix 9)
    ∷ check NoHomography (not (has_homography (quad_of source) (quad_of target))) ∷ []

-- `rms_error`
abbrev pub error_tests : List Float → List Float → List Float → List Check
error_tests a b result = check AreaShort (short a 8 || short b 8 || short result 1) ∷ []

-- `Radial::new`
abbrev pub lens_tests : ℕ → ℕ → List Float → List Check
lens_tests w h lens = side_tests w h ++ (check AreaShort (short lens 4) ∷ [])

-- `bilinear`
abbrev pub colour_tests : Image → List ℕ → List Check
colour_tests img colour = capture_tests img ++ (check AreaShort (short colour 4) ∷ [])

-- `marker_size`, `quiet_zone`, `margin_for`
abbrev pub marker_tests : ℕ → List ℕ → List Check
marker_tests cell numbers = cell_tests cell ++ (check AreaShort (short numbers 3) ∷ [])

-- `cols`, `rows`
abbrev pub cells_tests : FrameSpec → List ℕ → List Check
cells_tests f numbers = frame_tests f ++ (check AreaShort (short numbers 2) ∷ [])

-- `marker_centers`
abbrev pub center_tests : FrameSpec → List Float → List Check
center_tests f points = check FrameOutside (frame_outside f) ∷ check AreaShort (short points 8) ∷ check NoLayout (no_layout f) ∷ []

-- the smallest lengths
abbrev pub length_tests : ℕ → ℕ → FrameSpec → List ℕ → List Check
length_tests w h f lengths = check FrameOutside (frame_outside f) ∷ check CaptureWrong (sides_wrong w h) ∷ check AreaShort (short lengths 11) ∷ []

-- `fit_for`
abbrev pub fit_tests : ℕ → ℕ → FrameSpec → List Float → Float → List Float → List Check
fit_tests w h f points k fit =
    check FrameOutside (frame_outside f)
    ∷ check CaptureWrong (sides_wrong w h)
    ∷ check AreaShort (short points 8 || short fit 13)
    ∷ check NoLayout (no_layout f)
    ∷ check NoHomography (not (fits_for w h f (quad_of points) k))
    ∷ []

-- where a slice of numbers is too short: the tests before 3, and 3. `marker_centers`
abbrev pub frame_first : FrameSpec → List Check
frame_first f = check FrameOutside (frame_outside f) ∷ check AreaShort true ∷ []

-- `fit_for`
abbrev pub sides_first : ℕ → ℕ → FrameSpec → List Check
sides_first w h f = check FrameOutside (frame_outside f) ∷ check CaptureWrong (sides_wrong w h) ∷ check AreaShort true ∷ []

-- functions over a capture
abbrev pub capture_first : Image → FrameSpec → List Check
capture_first img f = check FrameOutside (frame_outside f) ∷ check CaptureWrong (capture_wrong img) ∷ check AreaShort true ∷ []

-- `label_blobs`: [7.2] a wrong length gives 2
abbrev pub mask_first : ℕ → ℕ → ℕ → List Check
mask_first mask w h = check CaptureWrong (sides_wrong w h || not (eqb mask (w * h))) ∷ check AreaShort true ∷ []
