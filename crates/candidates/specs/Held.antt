-- What is known of a picture's planes. Assumes nothing.
use Rattle.std.specs.Prelude.{ℕ, ◌*◌, ◌≤◌, ◌≡◌, List, length, Float}

-- the mask and the luma plane of a picture w by h
pub record PlanesHeld (w h : ℕ) (m : List ℕ) (luma : List Float) : Type 0 where
  pub w_some : 1 ≤ w
  pub w_held : w ≤ 4096
  pub h_some : 1 ≤ h
  pub h_held : h ≤ 4096
  pub mask_long : length m ≡ w * h
  pub luma_long : length luma ≡ w * h
