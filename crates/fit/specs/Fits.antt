-- The fit for a lens term (requirements, 12.2: a trial's k, lens and homography). Assumes nothing.
use Rattle.std.specs.Prelude.{ℕ, Bool, cond, Float, Ok, Err}
use Rattle.float.specs.Floats.{f64}
use Rattle.markers.specs.Layout.{marker_centers}
use Rattle.homography.specs.Equations.{identity, has_homography, homography}
use Rattle.radial.specs.Lens.{radial, undistort}
use Rattle.frame.specs.declared.FrameSpec.{FrameSpec}
use Rattle.frame.specs.declared.Quad.{Quad}
use Rattle.frame.specs.declared.refusals.Refusal.{Refusal}
use Rattle.frame.specs.declared.refusals.Refusal.TheVariants.{NoHomography}
use Rattle.radial.specs.declared.Radial.{Radial}
use Rattle.fit.specs.declared.GeometryFit.{GeometryFit}
use Rattle.fit.specs.declared.Fitted.{Fitted}

abbrev pub undistorted : Radial → Quad → Quad
undistorted l q = record {
  tl = undistort l q.tl;
  tr = undistort l q.tr;
  br = undistort l q.br;
  bl = undistort l q.bl;
}

-- [12.2] `fit_for`: a Radial with the capture's centre and norm, and the homography that this gives from the marker
-- centres to the four centres undistorted
unfoldable pub fits_for : ℕ → ℕ → FrameSpec → Quad → Float → Bool
fits_for w h f q k = has_homography (marker_centers f) (undistorted (radial w h k) q)

unfoldable pub fit_for : ℕ → ℕ → FrameSpec → Quad → Float → GeometryFit
fit_for w h f q k =
    let l = radial w h k in
    record { h = homography (marker_centers f) (undistorted l q); radial = l }

-- no fit: the identity, and a lens that bends nothing
abbrev pub no_fit : GeometryFit
no_fit = record { h = identity; radial = record { k = f64 0; cx = f64 0; cy = f64 0; norm = f64 1 } }

-- refused: no fit
unfoldable pub unfitted : Refusal → Fitted
unfitted r = record { verdict = Err r; fit = no_fit }

-- `fit_for` past its tests
unfoldable pub fitted_for : ℕ → ℕ → FrameSpec → Quad → Float → Fitted
fitted_for w h f q k =
    cond (fits_for w h f q k) (record { verdict = Ok tt; fit = fit_for w h f q k }) (unfitted NoHomography)
