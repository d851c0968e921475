-- What `fit_geometry` does; refusal 10. Assumes nothing.
use Rattle.std.specs.Prelude.{ℕ, ◌≤◌, ◌≡◌, Bool, false, cond, ◌||◌, List, ltb, length, Float, Result, Ok, Err}
use Rattle.frame.specs.Image.{Image}
use Rattle.frame.specs.Refusals.{number_of, Lowest, Check, Tested}
use Rattle.candidates.specs.Areas.{Areas, lengths_of, shorter, smallest, picture_tests}
use Rattle.candidates.specs.Promises.{Looked, no_counts}
use Rattle.candidates.specs.declared.Counts as candidates
use Rattle.candidates.specs.declared.Lengths.{Lengths}
use Rattle.fiducials.specs.Answers.{no_places}
use Rattle.fiducials.specs.Promises.{MarkedBy, Undetected, centers_at, Cornered}
use Rattle.fiducials.specs.declared.Places.{Places}
use Rattle.fit.specs.Promises.{sampled_cells, MeansKept}
use Rattle.frame.specs.declared.FrameSpec.{FrameSpec}
use Rattle.frame.specs.declared.Quad.{Quad}
use Rattle.frame.specs.declared.refusals.Refusal.{Refusal}
use Rattle.frame.specs.declared.refusals.Refusal.TheVariants.{NoHomography}
use Rattle.search.specs.Stages.{begun, keeps, searched, last_center, BarrenStage, BestTrial}
use Rattle.search.specs.Counts.{Counts}
use Rattle.search.specs.declared.Stage.{Stage}
use Rattle.fit_geometry.specs.declared.PictureFit.{PictureFit}

-- the conditions of `fit_geometry` and `rectify`, each with its number: those of `detect_fiducials`, and 10
pub data Unfitted (img : Image) (f : FrameSpec) (tests : List Check) (n : ℕ) : Type 0 where
  undetected : Undetected img f tests n → Unfitted img f tests n
  -- [2.10] 10: a stage in which no trial has a homography
  barren : n ≡ 10 → (q : Quad) → MarkedBy img f q → BarrenStage img f q → Unfitted img f tests n

-- [2.3, 3.1] 3: a work area is too short, the cell means (one for each sampled cell) among them; the areas by their
-- lengths
abbrev pub fit_short : Image → FrameSpec → Lengths → ℕ → Bool
fit_short img f l means = shorter l (smallest img.w img.h) || ltb means (sampled_cells f)

abbrev pub fit_tests : Image → FrameSpec → Areas → List Float → List Check
fit_tests img f a means = picture_tests img f (fit_short img f (lengths_of a) (length means)) false

-- ---- past the tests

-- the corners' places in an answer; 0 where it is refused
abbrev pub corners_named : Result Places Refusal → Places
corners_named (Ok p) = p
corners_named (Err r) = no_places

-- refused before the search, with the counts n
unfoldable pub unsearched : Refusal → candidates.Counts → PictureFit
unsearched r n = record { places = Err r; stage = begun 0 0; counts = n }

-- refused by a test
unfoldable pub refused_by_test : Refusal → PictureFit
refused_by_test r = unsearched r no_counts

-- the corners p and the search's last stage t; 10 where that keeps none
unfoldable pub searched_fit : Places → Stage → candidates.Counts → PictureFit
searched_fit p t n = record { places = cond (keeps t.kept) (Ok p) (Err NoHomography); stage = t; counts = n }

-- what a call leaves where no test refuses it: areas a, then b; its answer r
pub record FitPastTests (img : Image) (f : FrameSpec) (a b : Areas) (means means' : List Float) (r : PictureFit)
    : Type 0 where
  pub looked : Looked img f a b r.counts.patches r.counts.candidates r.counts.waited
  pub means_rest : MeansKept f means means'
  -- 7 to 10, or 0: the lowest number that applies, after any tests of which none holds
  pub lowest : (tests : List Check) → ((j : ℕ) → Tested j tests → ⊥)
      → Lowest (Unfitted img f tests) (number_of r.places)
  pub from_seven : 1 ≤ number_of r.places → 7 ≤ number_of r.places
  -- accepted: the corners, and the search over their centres
  pub corners : number_of r.places ≡ 0
      → Cornered img f b.patches looked.firsts r.counts.patches (corners_named r.places)
  pub found : number_of r.places ≡ 0 → r.stage ≡ searched img f (centers_at b.patches (corners_named r.places))
  pub best : number_of r.places ≡ 0 → BestTrial img f (centers_at b.patches (corners_named r.places)) 2
      (last_center img f (centers_at b.patches (corners_named r.places))) r.stage.fit
  -- [26.2, 26.3, 26.6] the different lens terms tried, those with a homography, and from 43 to 78 when accepted
  pub counts : number_of r.places ≡ 0 → Counts img f (centers_at b.patches (corners_named r.places)) r.stage.tried
      r.stage.homographies
  -- 10: the search up to and with the stage that has no trial with a homography
  pub fruitless : number_of r.places ≡ 10 → (q : Quad) → MarkedBy img f q → r.stage ≡ searched img f q
  -- 7 to 9: nothing was tried
  pub untried : 1 ≤ number_of r.places → number_of r.places ≤ 9 → r.stage ≡ begun 0 0
  pub nowhere : 1 ≤ number_of r.places → corners_named r.places ≡ no_places

-- ---- `fit_geometry`

-- a call that makes these tests first
pub record FittingAfter (img : Image) (f : FrameSpec) (tests : List Check) (a b : Areas) (means means' : List Float)
    (r : PictureFit) : Type 0 where
  pub number : ℕ
  pub given : number_of r.places ≡ number
  pub refusal : Lowest (Unfitted img f tests) number
  -- [2.17] 1 to 6 touch no memory
  pub untouched : 1 ≤ number → number ≤ 6 → (b ≡ a) × (means' ≡ means) × (r.counts.patches ≡ 0)
      × (r.counts.candidates ≡ 0) × (r.counts.waited ≡ 0)
  -- from 7 on, and accepted: planes, marks and records
  pub refused : 7 ≤ number → Looked img f a b r.counts.patches r.counts.candidates r.counts.waited
  pub accepted : number ≡ 0 → Looked img f a b r.counts.patches r.counts.candidates r.counts.waited
  pub means_rest : MeansKept f means means'
  pub corners : (e : number ≡ 0) → Cornered img f b.patches (accepted e).firsts r.counts.patches
      (corners_named r.places)
  -- [12.6] the kept trial with its grade and fit, the trials tried and how many had a homography
  pub found : number ≡ 0 → r.stage ≡ searched img f (centers_at b.patches (corners_named r.places))
  -- [0.5] the reported fit is a trial of the last lens stage over those four patches' centres; no other trial of that
  -- stage scores more, and no earlier one as much
  pub best : number ≡ 0 → BestTrial img f (centers_at b.patches (corners_named r.places)) 2
      (last_center img f (centers_at b.patches (corners_named r.places))) r.stage.fit
  -- [26.2, 26.3, 26.6] the different lens terms tried, those with a homography, and from 43 to 78 when accepted
  pub counts : number ≡ 0 → Counts img f (centers_at b.patches (corners_named r.places)) r.stage.tried
      r.stage.homographies
  -- 10: the counts up to and with the stage that has no trial with a homography
  pub fruitless : number ≡ 10 → (q : Quad) → MarkedBy img f q → r.stage ≡ searched img f q
  -- 1 to 9: nothing was tried
  pub untried : 1 ≤ number → number ≤ 9 → r.stage ≡ begun 0 0
  pub nowhere : 1 ≤ number → corners_named r.places ≡ no_places

abbrev pub Fitting : Image → FrameSpec → Areas → Areas → List Float → List Float → PictureFit → Type 0
Fitting img f a b means means' r = FittingAfter img f (fit_tests img f a means) a b means means' r
