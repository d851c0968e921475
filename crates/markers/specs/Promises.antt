-- What the public functions of this crate do. Assumes nothing.
use Rattle.std.specs.Prelude.{ℕ, ◌≤◌, ◌≡◌, not, List, [], ◌∷◌}
use Rattle.frame.specs.Image.{Image}
use Rattle.frame.specs.Refusals.{Check, check, lowest_of, cell_held, frame_outside, capture_wrong}
use Rattle.markers.specs.Layout.{no_layout}
use Rattle.markers.specs.Stamp.{stamped}
use Rattle.frame.specs.declared.FrameSpec.{FrameSpec}
use Rattle.frame.specs.declared.refusals.Refusal.TheVariants.{FrameOutside, CaptureWrong, NoLayout}

-- ---- [2.13] each call makes the checks that concern what it is handed

-- `marker_size`, `quiet_zone`, `margin_for`: [2.13] a lone cell is a frame number
unfoldable pub cell_tests : ℕ → List Check
cell_tests cell = check FrameOutside (not (cell_held cell)) ∷ []

-- `marker_centers`
unfoldable pub layout_tests : FrameSpec → List Check
layout_tests f = check FrameOutside (frame_outside f) ∷ check NoLayout (no_layout f) ∷ []

-- `stamp_fiducials`: [13.1] its image is checked as a capture
unfoldable pub stamp_tests : Image → FrameSpec → List Check
stamp_tests img f =
    check FrameOutside (frame_outside f) ∷ check CaptureWrong (capture_wrong img) ∷ check NoLayout (no_layout f) ∷ []

-- ---- `stamp_fiducials`: its number is n and the bytes become out
pub record Stamping (img : Image) (f : FrameSpec) (n : ℕ) (out : List ℕ) : Type 0 where
  pub given : n ≡ lowest_of (stamp_tests img f)
  pub accepted : lowest_of (stamp_tests img f) ≡ 0 → out ≡ stamped img f
  pub refused : 1 ≤ lowest_of (stamp_tests img f) → out ≡ img.bytes
