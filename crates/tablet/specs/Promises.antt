-- The functions over public functions with work areas. Assumes nothing.
use Rattle.std.specs.Prelude.{◌≡◌, ◌||◌, List, [], ◌∷◌, ◌++◌, ℕ, length, Float}
use Rattle.frame.specs.Image.{Image}
use Rattle.frame.specs.declared.FrameSpec.{FrameSpec}
use Rattle.blobs.specs.Areas.{PatchAreas}
use Rattle.blobs.specs.Promises.{Labelling}
use Rattle.fit.specs.Promises.{Scoring}
use Rattle.fit.specs.Grid.{grade_of, score_of}
use Rattle.book.specs.Layout.{record_at, fit_in}
use Rattle.book.specs.declared.FitRecord.{FitRecord}
use Rattle.geometry.specs.Promises.{Warping, RecordWarping}
use Rattle.geometry.specs.Warp.{beyond}
use Rattle.candidates.specs.Areas.{Areas}
use Rattle.candidates.specs.Promises.{Listing}
use Rattle.fiducials.specs.Promises.{Detection}
use Rattle.frame.specs.declared.Quad.{Quad}
use Rattle.fiducials.specs.declared.Places.{Places}
use Rattle.tablet.specs.Slices.{short, answered, told, Answering, Over}
use Rattle.fit.specs.Numbers.{fit_of}
use Rattle.tablet.specs.Layouts.{grade_numbers, list_numbers, place_numbers, quad_numbers}
use Rattle.tablet.specs.Tests.{capture_first, mask_first}

-- `warp_with`: its answer, and the number in the slice for counts
pub record Warped (img : Image) (f : FrameSpec) (fit : List Float) (c c' counts counts' : List ℕ) (r : ℕ) : Type 0 where
  pub warping : Answering r (Warping img f (fit_of fit) c c')
  pub counts_are : counts' ≡ answered r (beyond img f (fit_of fit) ∷ []) counts

abbrev pub WarpedOver : Image → FrameSpec → List Float → List ℕ → List ℕ → List ℕ → List ℕ → ℕ → Type 0
WarpedOver img f fit c c' counts counts' r =
    Over (short fit 13 || short counts 1) (capture_first img f) r ((c' ≡ c) × (counts' ≡ counts))
    (Warped img f fit c c' counts counts' r)

-- [21.7] `warp_record`: the record of that grade and the first thirteen numbers; its panel and camera, which the warp
-- does not look at, are 0
abbrev pub record_over : ℕ → List ℕ → FitRecord
record_over grade numbers = record_at (0 ∷ 0 ∷ grade ∷ []) numbers 0

pub record RecordWarped (img : Image) (f : FrameSpec) (kept : FitRecord) (c c' counts counts' : List ℕ) (r : ℕ) : Type 0 where
  pub warping : Answering r (RecordWarping img f kept c c')
  pub counts_are : counts' ≡ answered r (beyond img f (fit_in kept) ∷ []) counts

abbrev pub RecordWarpedOver : Image → FrameSpec → ℕ → List ℕ → List ℕ → List ℕ → List ℕ → List ℕ → ℕ → Type 0
RecordWarpedOver img f grade numbers c c' counts counts' r =
    Over (short numbers 13 || short counts 1) (capture_first img f) r ((c' ≡ c) × (counts' ≡ counts))
    (RecordWarped img f (record_over grade numbers) c c' counts counts' r)

-- `grid_score`: its answer, and the numbers in the slices for grade and score
pub record Graded (img : Image) (f : FrameSpec) (fit means means' : List Float) (grade grade' : List ℕ)
    (score score' : List Float) (r : ℕ) : Type 0 where
  pub scoring : Answering r (Scoring img f (fit_of fit) means means')
  pub grade_is : grade' ≡ answered r (grade_numbers (grade_of img f (fit_of fit))) grade
  pub score_is : score' ≡ answered r (score_of (grade_of img f (fit_of fit)) ∷ []) score

abbrev pub GridScored : Image → FrameSpec → List Float → List Float → List Float → List ℕ → List ℕ → List Float
    → List Float → ℕ → Type 0
GridScored img f fit means means' grade grade' score score' r =
    Over (short fit 13 || short grade 2 || short score 1) (capture_first img f) r
    ((means' ≡ means) × (grade' ≡ grade) × (score' ≡ score))
    (Graded img f fit means means' grade grade' score score' r)

-- `label_blobs`: its two numbers in the slice for counts
pub record Labelled (m : List ℕ) (w h : ℕ) (a b : PatchAreas) (counts counts' : List ℕ) (r : ℕ) : Type 0 where
  pub patches : ℕ
  pub waited : ℕ
  pub labelling : Labelling m w h a b r patches waited
  pub counts_are : counts' ≡ answered r (patches ∷ waited ∷ []) counts

abbrev pub LabelledOver : List ℕ → ℕ → ℕ → PatchAreas → PatchAreas → List ℕ → List ℕ → ℕ → Type 0
LabelledOver m w h a b counts counts' r =
    Over (short counts 2) (mask_first (length m) w h) r
    ((b ≡ a) × (counts' ≡ counts))
    (Labelled m w h a b counts counts' r)

-- `fiducial_candidates`: its three numbers in the slice for counts
pub record Listed (img : Image) (f : FrameSpec) (a b : Areas) (counts counts' : List ℕ) (r : ℕ) : Type 0 where
  pub patches : ℕ
  pub candidates : ℕ
  pub waited : ℕ
  pub listing : Listing img f a b r patches candidates waited
  pub counts_are : counts' ≡ answered r (list_numbers patches candidates waited) counts

abbrev pub ListedOver : Image → FrameSpec → Areas → Areas → List ℕ → List ℕ → ℕ → Type 0
ListedOver img f a b counts counts' r =
    Over (short counts 3) (capture_first img f) r ((b ≡ a) × (counts' ≡ counts)) (Listed img f a b counts counts' r)

-- `detect_fiducials`: the same with the corners' places, and their centres
pub record Detected (img : Image) (f : FrameSpec) (a b : Areas) (counts counts' : List ℕ) (points points' : List
    Float) (r : ℕ) : Type 0 where
  pub patches : ℕ
  pub candidates : ℕ
  pub waited : ℕ
  pub places : Places
  pub quad : Quad
  pub detection : Detection img f a b r patches candidates waited places quad
  pub counts_are : counts' ≡ told r (list_numbers patches candidates waited ++ place_numbers places) counts
  pub points_are : points' ≡ answered r (quad_numbers quad) points

abbrev pub DetectedOver : Image → FrameSpec → Areas → Areas → List ℕ → List ℕ → List Float → List Float → ℕ → Type 0
DetectedOver img f a b counts counts' points points' r =
    Over (short counts 7 || short points 8) (capture_first img f) r
    ((b ≡ a) × (counts' ≡ counts) × (points' ≡ points))
    (Detected img f a b counts counts' points points' r)
