-- What `rectify` does: the third demand (requirements, 0.3 to 0.7), its sentences above the fields that state them.
-- Assumes nothing.
use Rattle.std.specs.Prelude.{ℕ, zero, suc, ◌≤◌, ◌≡◌, Bool, true, false, cond, ◌&&◌, List, T, eqb, length, Float, Err}
use Rattle.frame.specs.Image.{Image}
use Rattle.frame.specs.Refusals.{number_of, Lowest, Check}
use Rattle.frame.specs.declared.FrameSpec.{FrameSpec}
use Rattle.frame.specs.declared.Quad.{Quad}
use Rattle.frame.specs.declared.refusals.Refusal.TheVariants.{Unscored}
use Rattle.candidates.specs.Areas.{Areas, lengths_of, picture_tests}
use Rattle.candidates.specs.Promises.{Looked}
use Rattle.fiducials.specs.Answers.{no_places}
use Rattle.fiducials.specs.Promises.{MarkedBy, centers_at, Cornered}
use Rattle.fit.specs.declared.GeometryFit.{GeometryFit}
use Rattle.fit.specs.declared.Grade.TheVariants.{Score, Outside, TooFew}
use Rattle.fit.specs.Promises.{MeansKept}
use Rattle.fit.specs.Fits.{no_fit}
use Rattle.search.specs.Stages.{begun, searched, last_center, BestTrial}
use Rattle.search.specs.Counts.{Counts}
use Rattle.search.specs.declared.Outcome.{Outcome}
use Rattle.search.specs.declared.Outcome.TheVariants.{NoHomography, Graded}
use Rattle.search.specs.declared.Stage.{Stage}
use Rattle.fit_geometry.specs.Promises.{Unfitted, fit_short, corners_named}
use Rattle.fit_geometry.specs.declared.PictureFit.{PictureFit}
use Rattle.geometry.specs.Warp as warp
use Rattle.geometry.specs.Warp.{warped}
use Rattle.geometry.specs.Promises.{canonical_wrong}

-- ---- what is lent: the areas of a look at the picture, the cell means, the canonical image
pub record Lent : Type 0 where
  pub areas : Areas
  pub means : List Float
  pub canonical : List ℕ

abbrev pub lent : Areas → List Float → List ℕ → Lent
lent areas means canonical = record { areas = areas; means = means; canonical = canonical }

abbrev pub rectify_tests : Image → FrameSpec → Lent → List Check
rectify_tests img f a =
    picture_tests img f (fit_short img f (lengths_of a.areas) (length a.means))
    (canonical_wrong f (length a.canonical))

-- ---- refusal 16

-- [21.2] a kept trial is unscored: its grade is outside or too few. A score is one whatever its float; a stage that
-- keeps none is refused by 10
unfoldable pub unscored : Outcome → Bool
unscored NoHomography = false
unscored (Graded (Score s)) = false
unscored (Graded (Outside cell)) = true
unscored (Graded TooFew) = true

-- the conditions of `rectify`, each with its number: those of `fit_geometry`, and 16
pub data Unrectified (img : Image) (f : FrameSpec) (tests : List Check) (n : ℕ) : Type 0 where
  unfitted : Unfitted img f tests n → Unrectified img f tests n
  -- [21.2] 16: "a fit whose kept last trial is unscored"; `searched` is the last stage
  unscored_fit : n ≡ 16 → (q : Quad) → MarkedBy img f q → T (unscored (searched img f q).kept)
      → Unrectified img f tests n

-- what a search kept and counted, without its fit; told after 16, of which the requirements give the number only
unfoldable pub without_fit : Stage → Stage
without_fit s = record { kept = s.kept; fit = no_fit; tried = s.tried; homographies = s.homographies }

-- [21.2] a picture's fit, or 16 in its place: no fit and no places then
unfoldable pub scored_fit : PictureFit → PictureFit
scored_fit p =
    cond (eqb (number_of p.places) 0 && unscored p.stage.kept)
    (record { places = Err Unscored; stage = without_fit p.stage; counts = p.counts })
    p

-- ---- the canonical image

-- the canonical image under a fit that was found, with the number 0; else as it was
unfoldable pub laid_where : ℕ → Image → FrameSpec → GeometryFit → List ℕ → List ℕ
laid_where zero img f fit canonical = warped img f fit canonical
laid_where (suc n) img f fit canonical = canonical

-- .. and the number of its pixels whose position was not inside; else 0
unfoldable pub beyond_where : ℕ → Image → FrameSpec → GeometryFit → ℕ
beyond_where zero img f fit = warp.beyond img f fit
beyond_where (suc n) img f fit = 0

-- ---- the areas and the answer of a call that is accepted, with the number 0, or refused by 7 or a higher number
pub record Seen (img : Image) (f : FrameSpec) (a b : Lent) (r : PictureFit) (number : ℕ) : Type 0 where
  -- [0.7] after an acceptance, and after a refusal by 7 or more, the patch list starts with every patch once, in
  -- raster order, and their areas add up to the dark pixels
  pub looked : Looked img f a.areas b.areas r.counts.patches r.counts.candidates r.counts.waited
  -- [14.2] the cell means are free; [3.2] past the sampled cells they stay as they were
  pub means_rest : MeansKept f a.means b.means
  -- [0.4] an accepted one names four different patches, one for each corner, each all the dark pixels joined edge to
  -- edge, each passing the ring rule; no other passing patch lies further out toward that corner, and of equals the
  -- first in raster order is named
  pub corners : number ≡ 0 → Cornered img f b.areas.patches looked.firsts r.counts.patches
      (corners_named r.places)
  -- [0.5] the reported fit is a trial of the last lens stage over those four patches' centres; no other trial of that
  -- stage scores more, and no earlier one as much
  pub best : number ≡ 0 → BestTrial img f (centers_at b.areas.patches (corners_named r.places)) 2
      (last_center img f (centers_at b.areas.patches (corners_named r.places))) r.stage.fit
  -- .. and it is the one that the stages keep, with its grade, [12.6] the trials tried and how many had a homography:
  -- this says which trial it is where a NaN leaves several
  pub found : number ≡ 0 → r.stage ≡ searched img f (centers_at b.areas.patches (corners_named r.places))
  -- [26.2, 26.3, 26.6] the different lens terms tried, those with a homography, and from 43 to 78 when accepted
  pub counts : number ≡ 0 → Counts img f (centers_at b.areas.patches (corners_named r.places)) r.stage.tried
      r.stage.homographies
  -- [0.6] every canonical pixel is the reading where that fit puts it
  pub laid : number ≡ 0 → b.canonical ≡ warped img f r.stage.fit a.canonical
  -- [0.1, 21.9] a refused rectification leaves the canonical image as it was
  pub kept : 7 ≤ number → b.canonical ≡ a.canonical
  -- by 10: the trials up to and with the stage that has none with a homography
  pub fruitless : number ≡ 10 → (q : Quad) → MarkedBy img f q → r.stage ≡ searched img f q
  -- [21.5] "its accepted results now all carry a score"
  pub scored : number ≡ 0 → (s : Float) × (r.stage.kept ≡ Graded (Score s))
  -- [21.9] by 16: the kept trial's grade and the counts of the whole search, and no fit
  pub undecided : number ≡ 16 → (q : Quad) → MarkedBy img f q → r.stage ≡ without_fit (searched img f q)
  -- [26.2, 26.3] .. which are counted alike
  pub undecided_counts : number ≡ 16 → (q : Quad) → MarkedBy img f q → Counts img f q r.stage.tried r.stage.homographies

-- ---- `rectify`: the answer r, and beside it the number `beyond`
pub record Rectification (img : Image) (f : FrameSpec) (a b : Lent) (r : PictureFit) (beyond : ℕ) : Type 0 where
  -- [2.16] a refusal returns its number; 0 is acceptance
  pub number : ℕ
  pub given : number_of r.places ≡ number
  -- [0.3] a rectification is refused exactly when a condition of the requirements holds for it, by the lowest such
  -- number
  pub refusal : Lowest (Unrectified img f (rectify_tests img f a)) number
  -- [2.17] 1 to 6 touch no memory
  pub untouched : 1 ≤ number → number ≤ 6 → b ≡ a
  -- [2.18, 21.9] the areas after 7 to 10 and 16, and after an acceptance
  pub refused : 7 ≤ number → Seen img f a b r number
  pub accepted : number ≡ 0 → Seen img f a b r number
  -- what an answer holds where there is nothing to tell (the requirements give a refusal its number only): after 1 to
  -- 6 no patch, after 1 to 9 no trial, after any refusal no place
  pub unseen : 1 ≤ number → number ≤ 6 → (r.counts.patches ≡ 0) × (r.counts.candidates ≡ 0)
      × (r.counts.waited ≡ 0)
  pub untried : 1 ≤ number → number ≤ 9 → r.stage ≡ begun 0 0
  pub nowhere : 1 ≤ number → corners_named r.places ≡ no_places
  -- [23.5] "an accepted `rectify` carries the number of canonical pixels whose position was not inside, NaN counted";
  -- after a refusal, of which there is nothing to tell, it is 0
  pub beyond_is : number ≡ 0 → beyond ≡ warp.beyond img f r.stage.fit
  pub beyond_none : 1 ≤ number → beyond ≡ 0
