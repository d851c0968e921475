-- What the number of pixels beyond the picture's edge comes to: theorems that a reader can cite (requirements, 23).
-- proofs/Beyond shows them. Assumes nothing.
use Rattle.std.specs.Prelude.{ℕ, ◌*◌, ◌≤◌, ◌<◌, ◌≡◌, Bool, true, false, ◌↔◌}
use Rattle.frame.specs.Image.{Image}
use Rattle.frame.specs.declared.FrameSpec.{FrameSpec}
use Rattle.sampling.specs.Reading.{sample_at}
use Rattle.fit.specs.declared.GeometryFit.{GeometryFit}
use Rattle.geometry.specs.Warp.{pixel_place, beyond}

-- of every canonical pixel's position `bilinear` tells that it is inside (b is true), or of every one that it is not
abbrev pub EachTells : Image → FrameSpec → GeometryFit → Bool → Type 0
EachTells img f fit b = (x y : ℕ) → x < f.width → y < f.height → (sample_at img (pixel_place fit x y)).inside ≡ b

-- [23.1] 0 says that no pixel of the card is smeared: exactly then every position is inside
abbrev pub NoneBeyond : Type 0
NoneBeyond = (img : Image) (f : FrameSpec) (fit : GeometryFit) → (beyond img f fit ≡ 0) ↔ EachTells img f fit true

-- [23.5] each pixel counts once at most
abbrev pub MostBeyond : Type 0
MostBeyond = (img : Image) (f : FrameSpec) (fit : GeometryFit) → beyond img f fit ≤ f.height * f.width

-- .. and all of them where no position is inside, as under a fit of NaNs
abbrev pub AllBeyond : Type 0
AllBeyond =
    (img : Image) (f : FrameSpec) (fit : GeometryFit) → EachTells img f fit false → beyond img f fit ≡ f.height * f.width
