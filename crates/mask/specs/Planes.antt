-- What the functions of this crate require and leave. Assumes nothing.
use Rattle.std.specs.Prelude.{ℕ, ◌+◌, ◌*◌, ◌≤◌, ◌<◌, ◌≡◌, List, length, get_or, Float}
use Rattle.std.specs.Float.{nan}
use Rattle.base.specs.Loops.{filled}
use Rattle.frame.specs.Image.{Image}
use Rattle.frame.specs.declared.FrameSpec.{FrameSpec}
use Rattle.sampling.specs.Luma.{luma_at, luma_plane}
use Rattle.mask.specs.Mask.{integral_entry, mask_entry}

-- a list that starts with the integral of a luma plane, and its entry by column and row
abbrev pub entry_at : List Float → ℕ → ℕ → ℕ → Float
entry_at a w x y = get_or a (y * (w + 1) + x) nan

abbrev pub Integral : List Float → ℕ → ℕ → List Float → Type 0
Integral luma w h a = (k : ℕ) → k < (w + 1) * (h + 1) → get_or a k nan ≡ integral_entry luma w k

-- what a luma plane of a picture w by h, its integral and the radius of a box keep
pub record BoxesHeld (w h radius : ℕ) (luma integral : List Float) : Type 0 where
  pub w_most : w ≤ 4096
  pub h_most : h ≤ 4096
  pub radius_most : radius ≤ 4096
  pub luma_length : length luma ≡ w * h
  pub integral_room : (w + 1) * (h + 1) ≤ length integral
  pub sums : Integral luma w h integral

-- what refusals 3 and 6 leave: areas long enough, and sides of 32 or more, of which 8 is at most a quarter
pub record Ready (img : Image) (luma integral : List Float) (mask : List ℕ) : Type 0 where
  pub luma_room : img.w * img.h ≤ length luma
  pub integral_room : (img.w + 1) * (img.h + 1) ≤ length integral
  pub mask_room : img.w * img.h ≤ length mask
  pub wide : 32 ≤ img.w
  pub high : 32 ≤ img.h

-- the three planes after: each starts with its entries, and the rest is as it was
pub record Planes (img : Image) (f : FrameSpec) (luma integral : List Float) (mask : List ℕ) (luma' integral' : List
    Float) (mask' : List ℕ) : Type 0 where
  pub luma_is : luma' ≡ filled (luma_at img) (img.w * img.h) luma
  pub integral_is : integral' ≡ filled (integral_entry (luma_plane img) img.w) ((img.w + 1) * (img.h + 1)) integral
  pub mask_is : mask' ≡ filled (mask_entry img f) (img.w * img.h) mask
