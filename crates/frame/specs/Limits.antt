-- The limits (requirements, 1.5 and 1.6) as bounds: what the functions behind the public ones require. Assumes
-- nothing.
use Rattle.std.specs.Prelude.{ℕ, ◌*◌, ◌≤◌, ◌≡◌, length}
use Rattle.frame.specs.Image.{Image}
use Rattle.frame.specs.declared.FrameSpec.{FrameSpec}

-- [1.6] a frame's sides are 1 to 4,096, its cell 1 to 512, its margin 0 to 4,096
pub record FrameHeld (f : FrameSpec) : Type 0 where
  pub width_least : 1 ≤ f.width
  pub width_most : f.width ≤ 4096
  pub height_least : 1 ≤ f.height
  pub height_most : f.height ≤ 4096
  pub cell_least : 1 ≤ f.cell
  pub cell_most : f.cell ≤ 512
  pub margin_most : f.margin ≤ 4096

-- [1.5] a capture's sides are 1 to 4,096
pub record SidesHeld (w h : ℕ) : Type 0 where
  pub w_least : 1 ≤ w
  pub w_most : w ≤ 4096
  pub h_least : 1 ≤ h
  pub h_most : h ≤ 4096

-- [1.5] .. and its bytes exactly 3·w·h
pub record CaptureHeld (img : Image) : Type 0 where
  pub w_least : 1 ≤ img.w
  pub w_most : img.w ≤ 4096
  pub h_least : 1 ≤ img.h
  pub h_most : img.h ≤ 4096
  pub bytes_held : length img.bytes ≡ 3 * img.w * img.h
