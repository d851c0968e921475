-- `tablet::fits::tablet_fit_for` meets its contract. Assumes nothing.
use mathlib.Core.Path.{◌≡◌, refl, sym, ap, ◌∙◌}
use mathlib.Core.Bool.{false, not, ◌||◌}
use mathlib.Core.List.{List, [], ◌∷◌}
use Prim.Native.Nat.{ℕ}
use lib.Ieee.{Float}
use native.Mathlib.Omega.{arith}
use borrow.Author.Tests.{le-ltb}
use Rattle.std.specs.Prelude.{Result, Ok, Err}
use Rattle.base.proofs.Tests.{or_neither}
use Rattle.book.proofs.Tested.{accepted_by}
use Rattle.frame.specs.Refusals.{number_of, check, lowest_of, answer_for, frame_outside, sides_wrong}
use Rattle.frame.specs.declared.FrameSpec.{FrameSpec}
use Rattle.frame.specs.declared.Quad.{Quad}
use Rattle.frame.specs.declared.refusals.Refusal.{Refusal}
use Rattle.frame.specs.declared.refusals.Refusal.TheVariants.{FrameOutside, CaptureWrong, AreaShort, NoLayout, NoHomography}
use Rattle.frame.proofs.Given.{answer_number, positive}
use Rattle.markers.specs.Layout.{no_layout}
use Rattle.fit.specs.Fits.{unfitted, fit_for, fits_for}
use Rattle.fit.specs.Numbers.{fit_numbers}
use Rattle.fit.specs.Promises.{fit_for_tests, fitted_as, fitted_by}
use Rattle.fit.specs.declared.Fitted.{Fitted}
use Rattle.fit.specs.declared.GeometryFit.{GeometryFit}
use Rattle.tablet.specs.Layouts.{quad_of}
use Rattle.tablet.specs.Slices.{short, written}
use Rattle.tablet.specs.Tests.{fit_tests}
use Rattle.tablet.proofs.Laws.{numbered, lowest_without}
use Rattle.tablet.proofs.fits.tablet_fit_for.Goals as goal

verdict_number : (a : Result GeometryFit Refusal) → number_of (fitted_as a).verdict ≡ number_of a
unfolding fitted_as unfitted
verdict_number (Ok t) = refl
verdict_number (Err r) = refl

fit_given : {a : Result GeometryFit Refusal} {t : GeometryFit} → a ≡ Ok t → (fitted_as a).fit ≡ t
unfolding fitted_as
fit_given e = ap (λ (a : Result GeometryFit Refusal). (fitted_as a).fit) e

-- the answer to the points p
module _ (w h : ℕ) (f : FrameSpec) (p fit : List Float) (k : Float) (s : Fitted) (q : Quad) (given : s ≡ fitted_by (fit_for_tests w h f q k) (fit_for w h f q k)) (points : q ≡ quad_of p) where
  answered_by : s ≡ fitted_by (fit_for_tests w h f (quad_of p) k) (fit_for w h f (quad_of p) k)
  answered_by = given ∙ ap (λ (x : Quad). fitted_by (fit_for_tests w h f x k) (fit_for w h f x k)) points

  tests_number : number_of s.verdict ≡ lowest_of (fit_for_tests w h f (quad_of p) k)
  unfolding fitted_by
  tests_number =
      let tests = fit_for_tests w h f (quad_of p) k in
      let t = fit_for w h f (quad_of p) k in
      ap (λ (x : Fitted). number_of x.verdict) answered_by ∙ verdict_number (answer_for tests t) ∙ answer_number t tests

  -- .. where no slice is short
  fit_number : (short p 8 || short fit 13) ≡ false → number_of s.verdict ≡ lowest_of (fit_tests w h f p k fit)
  unfolding fit_for_tests
  fit_number long =
      let later = check NoLayout (no_layout f) ∷ check NoHomography (not (fits_for w h f (quad_of p) k)) ∷ [] in
      tests_number ∙ sym (lowest_without AreaShort _ later (check FrameOutside (frame_outside f) ∷ check CaptureWrong (sides_wrong w h) ∷ []) long)

  fit_found : number_of s.verdict ≡ 0 → s.fit ≡ fit_for w h f (quad_of p) k
  unfolding fitted_by
  fit_found z =
      let tests = fit_for_tests w h f (quad_of p) k in
      let t = fit_for w h f (quad_of p) k in
      ap (λ (x : Fitted). x.fit) answered_by ∙ fit_given (accepted_by tests t (sym tests_number ∙ z))

pub returns-in-Ok : goal.returns-in-Ok
returns-in-Ok c =
    let a = c.args in
    let s = c.fit_for-fitted in
    let z : number_of s.result.verdict ≡ 0 = ap number_of c.in-Ok.is in
    record {
      number = sym z ∙ fit_number _ _ _ a.points.now a.fit.now _ _ _ s.ensures c.quad.ensures (or_neither _ _ (le-ltb _ _ c.if-points-lt8.false) (le-ltb _ _ c.if-fit-lt13.false));
      result = c.store_fit.ensures ∙ ap (λ (t : GeometryFit). written (fit_numbers t) a.fit.now) (fit_found _ _ _ a.points.now a.fit.now _ _ _ s.ensures c.quad.ensures z);
    }

pub returns-in-Err : goal.returns-in-Err
returns-in-Err c =
    let a = c.args in
    let s = c.fit_for-fitted in
    let p = positive c.in-Err.refusal in
    let n = c.number-in-Err.ensures in
    numbered _ _ _ _
    (n ∙ sym (ap number_of c.in-Err.is)
    ∙ fit_number _ _ _ a.points.now a.fit.now _ _ _ s.ensures c.quad.ensures (or_neither _ _ (le-ltb _ _ c.if-points-lt8.false) (le-ltb _ _ c.if-fit-lt13.false)))
    (λ z. omega arith)
