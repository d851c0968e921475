-- The definitions, by the cases that the code goes by. Assumes nothing.
use mathlib.Core.Path.{◌≡◌, refl, sym, ap, ◌∙◌}
use mathlib.Core.Bool.{Bool, true, false, cond, not}
use mathlib.Core.List.{[], ◌∷◌}
use Prim.Native.Nat.{ℕ}
use lib.Ieee.{Float}
use Rattle.std.specs.Prelude.{Result, Ok, Err, ⊤}
use Rattle.frame.specs.Refusals.{check, answer_for}
use Rattle.frame.specs.declared.FrameSpec.{FrameSpec}
use Rattle.frame.specs.declared.Quad.{Quad}
use Rattle.frame.specs.declared.refusals.Refusal.{Refusal}
use Rattle.frame.specs.declared.refusals.Refusal.TheVariants.{NoHomography}
use Rattle.markers.specs.Layout.{marker_centers}
use Rattle.homography.specs.Equations.{has_homography, homography, from_points, found, refused}
use Rattle.homography.specs.declared.Solved.{Solved}
use Rattle.radial.specs.Lens.{radial}
use Rattle.radial.specs.declared.Radial.{Radial}
use Rattle.fit.specs.declared.Fitted.{Fitted}
use Rattle.fit.specs.Fits.{undistorted, fits_for, fit_for, unfitted, fitted_for}
use Rattle.fit.specs.Promises.{fitted_as, fitted_by}

-- ---- a fit for a lens term
module _ (w h : ℕ) (f : FrameSpec) (q : Quad) (k : Float) where
  abbrev there : Bool
  there = has_homography (marker_centers f) (undistorted (radial w h k) q)

  abbrev matrix : Bool → Solved
  matrix b = cond b (found (homography (marker_centers f) (undistorted (radial w h k) q))) (refused NoHomography)

  abbrev given : Bool → Fitted
  given b =
      cond b
      (record { verdict = Ok tt; fit = record { h = homography (marker_centers f) (undistorted (radial w h k) q); radial = radial w h k } })
      (unfitted NoHomography)

  module _ {l : Radial} {s : Solved} (d : l ≡ radial w h k) (e : s ≡ from_points (marker_centers f) (undistorted l q)) where
    solved : s ≡ matrix there
    unfolding from_points
    solved = e ∙ ap (λ (z : Radial). from_points (marker_centers f) (undistorted z q)) d

    pub solved_fits : s.verdict ≡ Ok tt → record { verdict = Ok tt; fit = record { h = s.h; radial = l } } ≡ fitted_for w h f q k
    unfolding fitted_for fits_for fit_for
    solved_fits v = ap (λ (z : Radial). record { verdict = Ok tt; fit = record { h = s.h; radial = z } }) d ∙ go there solved
      where
        go : (b : Bool) → s ≡ matrix b → record { verdict = Ok tt; fit = record { h = s.h; radial = radial w h k } } ≡ given b
        go true p = ap (λ (z : Solved). record { verdict = Ok tt; fit = record { h = z.h; radial = radial w h k } }) p
        go false p = let z : ◌≡◌ {A = Result ⊤ Refusal} (Err NoHomography) (Ok tt) = sym (ap (λ (z : Solved). z.verdict) p) ∙ v in cc

    pub solved_none : {r : Refusal} → s.verdict ≡ Err r → unfitted r ≡ fitted_for w h f q k
    unfolding fitted_for fits_for fit_for
    solved_none {r} v = go there solved
      where
        go : (b : Bool) → s ≡ matrix b → unfitted r ≡ given b
        go true p = let z : ◌≡◌ {A = Result ⊤ Refusal} (Ok tt) (Err r) = sym (ap (λ (z : Solved). z.verdict) p) ∙ v in cc
        go false p =
            let z : ◌≡◌ {A = Result ⊤ Refusal} (Err NoHomography) (Err r) = sym (ap (λ (z : Solved). z.verdict) p) ∙ v in
            let n : r ≡ NoHomography = cc in
            ap unfitted n

  -- past the other tests, the answer is that of the last
  pub fitted_last : fitted_for w h f q k ≡ fitted_by (check NoHomography (not (fits_for w h f q k)) ∷ []) (fit_for w h f q k)
  unfolding fitted_for fitted_by answer_for
  fitted_last = go (fits_for w h f q k)
    where
      go : (b : Bool) → cond b (record { verdict = Ok tt; fit = fit_for w h f q k }) (unfitted NoHomography) ≡ fitted_as (cond (not b) (Err NoHomography) (Ok (fit_for w h f q k)))
      go true = unfold fitted_as in refl
      go false = unfold fitted_as in refl
