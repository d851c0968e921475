-- What `fit_for` and `grid_score` do. Assumes nothing.
use Rattle.std.specs.Prelude.{ℕ, ◌*◌, ◌≤◌, ◌≡◌, Bool, not, List, [], ◌∷◌, ltb, length, drop, Float, Result, Ok, Err}
use Rattle.frame.specs.Image.{Image}
use Rattle.frame.specs.Refusals.{Check, check, lowest_of, answer_for, sides_wrong, frame_outside, capture_wrong}
use Rattle.frame.specs.declared.refusals.Refusal.{Refusal}
use Rattle.frame.specs.declared.refusals.Refusal.TheVariants.{FrameOutside, CaptureWrong, AreaShort, NoLayout, NoHomography}
use Rattle.markers.specs.Layout.{no_layout}
use Rattle.fit.specs.Grid.{across, down, grade_of}
use Rattle.fit.specs.Fits.{unfitted, fits_for}
use Rattle.frame.specs.declared.FrameSpec.{FrameSpec}
use Rattle.frame.specs.declared.Quad.{Quad}
use Rattle.fit.specs.declared.GeometryFit.{GeometryFit}
use Rattle.fit.specs.declared.Grade.{Grade}
use Rattle.fit.specs.declared.Fitted.{Fitted}

unfoldable pub sampled_cells : FrameSpec → ℕ
sampled_cells f = down f * across f

unfoldable pub means_short : FrameSpec → List Float → Bool
means_short f means = ltb (length means) (sampled_cells f)

-- [2.14] `fit_for` does not give 6; [2.13] of the capture it is handed w and h
unfoldable pub fit_for_tests : ℕ → ℕ → FrameSpec → Quad → Float → List Check
fit_for_tests w h f q k =
    check FrameOutside (frame_outside f)
    ∷ check CaptureWrong (sides_wrong w h)
    ∷ check NoLayout (no_layout f)
    ∷ check NoHomography (not (fits_for w h f q k))
    ∷ []

-- its answer: [2.12] the lowest number that applies, with no fit, or the fit; the fit stands beside the verdict
unfoldable pub fitted_as : Result GeometryFit Refusal → Fitted
fitted_as (Ok t) = record { verdict = Ok tt; fit = t }
fitted_as (Err r) = unfitted r

unfoldable pub fitted_by : List Check → GeometryFit → Fitted
fitted_by tests t = fitted_as (answer_for tests t)

-- [2.14] `grid_score` gives neither 5 nor 6
unfoldable pub grid_tests : Image → FrameSpec → List Float → List Check
grid_tests img f means =
    check FrameOutside (frame_outside f) ∷ check CaptureWrong (capture_wrong img) ∷ check AreaShort (means_short f means) ∷ []

-- ---- `grid_score`: [2.12] the lowest number that applies, or the grade. [14.2] The cell means are free after a call
-- not refused by 1 to 6; [3.2] past the sampled cells they stay as they were

-- means entries past the sampled cells stay
abbrev pub MeansKept : FrameSpec → List Float → List Float → Type 0
MeansKept f means means' = (length means' ≡ length means) × (drop (sampled_cells f) means' ≡ drop (sampled_cells f) means)

pub record Scoring (img : Image) (f : FrameSpec) (fit : GeometryFit) (means means' : List Float) (r : Result Grade
    Refusal) : Type 0 where
  pub given : r ≡ answer_for (grid_tests img f means) (grade_of img f fit)
  pub means_rest : MeansKept f means means'
  pub untouched : 1 ≤ lowest_of (grid_tests img f means) → means' ≡ means
