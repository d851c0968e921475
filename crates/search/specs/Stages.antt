-- The lens search (requirements, 12). Assumes nothing.
use Rattle.std.specs.Prelude.{ℕ, zero, suc, ◌+◌, ◌<◌, ◌≡◌, Bool, true, false, cond, not, T, Float}
use Rattle.std.specs.Float.Ieee.{neg, lt, le, eq}
use Rattle.base.specs.Loops.{turns, every}
use Rattle.float.specs.Floats.{◌⊕◌, ◌⊖◌, ◌⊗◌, ◌⊘◌, f64, d64, round_of, as_usize, clamp_of}
use Rattle.frame.specs.Image.{Image}
use Rattle.fit.specs.Grid.{grade_of, score_of}
use Rattle.fit.specs.First.{FirstOutside}
use Rattle.fit.specs.Fits.{fits_for, fit_for, no_fit}
use Rattle.frame.specs.declared.FrameSpec.{FrameSpec}
use Rattle.frame.specs.declared.Quad.{Quad}
use Rattle.fit.specs.declared.GeometryFit.{GeometryFit}
use Rattle.fit.specs.declared.Grade.{Grade}
use Rattle.fit.specs.declared.Grade.TheVariants.{Outside}
use Rattle.search.specs.declared.Outcome.{Outcome}
use Rattle.search.specs.declared.Stage.{Stage}
use Rattle.search.specs.declared.Outcome.TheVariants.{NoHomography, Graded}

-- `K_MAX`
abbrev pub k_max : Float
k_max = d64 20 100

-- `K_STAGES`: half span and step of stage 0, 1 and 2
unfoldable pub span : ℕ → Float
span zero = k_max
span (suc zero) = d64 12 1000
span (suc (suc n)) = d64 15 10000

unfoldable pub step : ℕ → Float
step zero = d64 10 1000
step (suc zero) = d64 12 10000
step (suc (suc n)) = d64 2 10000

-- [12.1] stages of 41, 21 and 16 trials: 0 ..= n, where n is twice the span over the step, rounded
unfoldable pub entries : ℕ → ℕ
entries j = as_usize (round_of (f64 2 ⊗ span j ⊘ step j)) + 1

-- [12.1] k clamped to ±0.20: entry i of stage j around a centre
unfoldable pub k_at : ℕ → Float → ℕ → Float
k_at j center i = clamp_of (neg k_max) k_max (center ⊖ span j ⊕ step j ⊗ f64 i)

-- [26.2] "the number of different k after clamping": an entry adds 1 where no earlier entry of its stage has the same
-- k, else 0. Counts says the sums by meaning
unfoldable pub fresh : ℕ → Float → ℕ → ℕ
fresh j center i = cond (every i (λ l. not (eq (k_at j center l) (k_at j center i)))) 1 0

-- ---- a trial

-- [12.4] a trial without homography is skipped; otherwise its outcome wraps a grade: the outcome of the trial of k
unfoldable pub outcome_of : Image → FrameSpec → Quad → Float → Outcome
outcome_of img f q k =
    cond (fits_for img.w img.h f q k) (Graded (grade_of img f (fit_for img.w img.h f q k))) NoHomography

-- ---- a stage

-- [12.5] each stage begins with none kept and keeps its first trial with a homography; a later trial of that stage
-- replaces the kept one only by scoring more
unfoldable pub replaces : Outcome → Grade → Bool
replaces NoHomography g = true
replaces (Graded b) g = lt (score_of b) (score_of g)

-- the stage after one more trial with a homography, which adds c to the counts: this one is kept, or the one before
abbrev pub takes : ℕ → Grade → GeometryFit → Stage → Stage
takes c g t s = record { kept = Graded g; fit = t; tried = s.tried + c; homographies = s.homographies + c }

abbrev pub stays : ℕ → Stage → Stage
stays c s = record { kept = s.kept; fit = s.fit; tried = s.tried + c; homographies = s.homographies + c }

-- the stage after one more trial, which adds c to the counts and had the outcome o and the fit t; [26.3] "the
-- homography count follows the same rule"
unfoldable pub staged : ℕ → Outcome → GeometryFit → Stage → Stage
staged c NoHomography t s = record {
  kept = s.kept;
  fit = s.fit;
  tried = s.tried + c;
  homographies = s.homographies;
}
staged c (Graded g) t s = cond (replaces s.kept g) (takes c g t s) (stays c s)

-- entry i of stage j around a centre: [26.1] it is tried whether its k is another or one that was tried before
abbrev pub trial_step : Image → FrameSpec → Quad → ℕ → Float → ℕ → Stage → Stage
trial_step img f q j center i s =
    staged (fresh j center i) (outcome_of img f q (k_at j center i)) (fit_for img.w img.h f q (k_at j center i)) s

-- none kept, with the counts of the stages before
abbrev pub begun : ℕ → ℕ → Stage
begun tried homographies = record { kept = NoHomography; fit = no_fit; tried = tried; homographies = homographies }

unfoldable pub stage_from : Image → FrameSpec → Quad → ℕ → Float → ℕ → ℕ → Stage
stage_from img f q j center tried homographies =
    turns (entries j) (trial_step img f q j center) (begun tried homographies)

-- a stage has kept a trial
unfoldable pub keeps : Outcome → Bool
keeps NoHomography = false
keeps (Graded g) = true

-- ---- [12.1] the three stages, the second and third around the k kept before; a stage that keeps none is the last

abbrev pub on_kept : Outcome → Stage → Stage → Stage
on_kept NoHomography s next = s
on_kept (Graded g) s next = next

unfoldable pub next_stage : Image → FrameSpec → Quad → ℕ → Stage → Stage
next_stage img f q j s = on_kept s.kept s (stage_from img f q j s.fit.radial.k s.tried s.homographies)

unfoldable pub first_stage : Image → FrameSpec → Quad → Stage
first_stage img f q = stage_from img f q 0 (f64 0) 0 0

unfoldable pub second_stage : Image → FrameSpec → Quad → Stage
second_stage img f q = next_stage img f q 1 (first_stage img f q)

unfoldable pub searched : Image → FrameSpec → Quad → Stage
searched img f q = next_stage img f q 2 (second_stage img f q)

-- [12.1] the centres of the second and of the last stage: the k kept before
unfoldable pub second_center : Image → FrameSpec → Quad → Float
second_center img f q = (first_stage img f q).fit.radial.k

unfoldable pub last_center : Image → FrameSpec → Quad → Float
last_center img f q = (second_stage img f q).fit.radial.k

-- [2.10] a stage in which no trial has a homography
abbrev pub Barren : Image → FrameSpec → Quad → ℕ → Float → Type 0
Barren img f q j center = (i : ℕ) → i < entries j → T (not (fits_for img.w img.h f q (k_at j center i)))

pub data BarrenStage (img : Image) (f : FrameSpec) (q : Quad) : Type 0 where
  first : Barren img f q 0 (f64 0) → BarrenStage img f q
  second : T (keeps (first_stage img f q).kept) → Barren img f q 1 (first_stage img f q).fit.radial.k
      → BarrenStage img f q
  third : T (keeps (second_stage img f q).kept) → Barren img f q 2 (last_center img f q) → BarrenStage img f q

-- ---- the kept trial of a stage, by meaning

-- [12.3] outside and too few compare as −∞, and a trial without homography has no score: a scores more than b, and as
-- much
unfoldable pub more : Outcome → Outcome → Bool
more NoHomography b = false
more (Graded a) NoHomography = false
more (Graded a) (Graded b) = lt (score_of b) (score_of a)

unfoldable pub as_much : Outcome → Outcome → Bool
as_much NoHomography b = false
as_much (Graded a) NoHomography = false
as_much (Graded a) (Graded b) = le (score_of b) (score_of a)

-- [0.5] the reported fit is a trial of the last lens stage; no other trial of that stage scores more, and no earlier
-- one as much
pub record BestTrial (img : Image) (f : FrameSpec) (q : Quad) (j : ℕ) (center : Float) (fit : GeometryFit)
    : Type 0 where
  pub entry : ℕ
  pub of_stage : entry < entries j
  pub has_homography_lem : T (fits_for img.w img.h f q (k_at j center entry))
  pub is : fit ≡ fit_for img.w img.h f q (k_at j center entry)
  pub none_more : (i : ℕ) → i < entries j
      → T (not (more (outcome_of img f q (k_at j center i)) (outcome_of img f q (k_at j center entry))))
  pub none_earlier : (i : ℕ) → i < entry → T (not (as_much (outcome_of img f q (k_at j center i)) (outcome_of img f q
      (k_at j center entry))))

-- ---- the grade that a search reports, by meaning; proofs/Kept shows both

-- [12.6] it is that of the reported fit
abbrev pub KeptGrade : Type 0
KeptGrade =
    (img : Image) (f : FrameSpec) (q : Quad) (g : Grade)
    → (searched img f q).kept ≡ Graded g → g ≡ grade_of img f (searched img f q).fit

-- [19.2] .. and so an outside one names the first cell, by row, then column, that this fit takes outside the picture
abbrev pub KeptOutside : Type 0
KeptOutside =
    (img : Image) (f : FrameSpec) (q : Quad) (cell : ℕ)
    → (searched img f q).kept ≡ Graded (Outside cell) → FirstOutside img f (searched img f q).fit cell
