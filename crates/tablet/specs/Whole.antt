-- `fit_geometry` and `rectify` over lent slices of numbers (host/include/tablet.h). Assumes nothing.
use Rattle.std.specs.Prelude.{ℕ, ◌≡◌, true, ◌||◌, List, [], ◌∷◌, ◌++◌, Float}
use Rattle.std.specs.Float.{inf}
use Rattle.frame.specs.Image.{Image}
use Rattle.frame.specs.Refusals.{number_of}
use Rattle.frame.specs.declared.FrameSpec.{FrameSpec}
use Rattle.candidates.specs.Areas.{Areas}
use Rattle.fit.specs.Grid.{score_of}
use Rattle.search.specs.declared.Outcome.{Outcome}
use Rattle.search.specs.declared.Outcome.TheVariants.{NoHomography, Graded}
use Rattle.fit_geometry.specs.Promises.{corners_named, Fitting}
use Rattle.fit_geometry.specs.declared.PictureFit.{PictureFit}
use Rattle.geometry.specs.Rectification.{Lent, Rectification}
use Rattle.tablet.specs.Slices.{short, answered, told, Over}
use Rattle.fit.specs.Numbers.{fit_numbers, grade_number}
use Rattle.tablet.specs.Layouts.{outside_cell, list_numbers, place_numbers}
use Rattle.tablet.specs.Tests.{capture_first}

-- the kept trial: "TABLET_NO_GRADE" where there is none
unfoldable pub kept_number : Outcome → ℕ
kept_number NoHomography = 3
kept_number (Graded g) = grade_number g

unfoldable pub kept_cell : Outcome → ℕ
kept_cell NoHomography = 0
kept_cell (Graded g) = outside_cell g

unfoldable pub kept_score : Outcome → Float
kept_score NoHomography = inf true
kept_score (Graded g) = score_of g

-- "Entries of the counts": the eleven of a fit
unfoldable pub found_numbers : PictureFit → List ℕ
found_numbers a =
    list_numbers a.counts.patches a.counts.candidates a.counts.waited
    ++ (place_numbers (corners_named a.places)
    ++ (a.stage.tried ∷ a.stage.homographies ∷ kept_number a.stage.kept ∷ kept_cell a.stage.kept ∷ []))

-- .. and all twelve: [23.5] last the number of canonical pixels whose position was not inside
unfoldable pub flat_numbers : PictureFit → ℕ → List ℕ
flat_numbers a beyond = found_numbers a ++ (beyond ∷ [])

-- "Entries of a found fit": all fourteen
unfoldable pub scored_fit : PictureFit → List Float
scored_fit a = fit_numbers a.stage.fit ++ (kept_score a.stage.kept ∷ [])

-- the slices for counts and fit after a call that was answered a, of which the counts are `found`, with the number r
pub record Told (a : PictureFit) (found counts counts' : List ℕ) (fit fit' : List Float) (r : ℕ) : Type 0 where
  pub number : r ≡ number_of a.places
  pub counts_are : counts' ≡ told r found counts
  pub fit_is : fit' ≡ answered r (scored_fit a) fit

-- `fit_geometry`
pub record Fitted (img : Image) (f : FrameSpec) (a b : Areas) (means means' : List Float) (counts counts' : List ℕ)
    (fit fit' : List Float) (r : ℕ) : Type 0 where
  pub answer : PictureFit
  pub fitting : Fitting img f a b means means' answer
  pub tells : Told answer (found_numbers answer) counts counts' fit fit' r

abbrev pub FittedOver : Image → FrameSpec → Areas → Areas → List Float → List Float → List ℕ → List ℕ → List Float
    → List Float → ℕ → Type 0
FittedOver img f a b means means' counts counts' fit fit' r =
    Over (short counts 11 || short fit 14) (capture_first img f) r
    ((b ≡ a) × (means' ≡ means) × (counts' ≡ counts) × (fit' ≡ fit))
    (Fitted img f a b means means' counts counts' fit fit' r)

-- `rectify`
pub record Flattened (img : Image) (f : FrameSpec) (a b : Lent) (counts counts' : List ℕ) (fit fit' : List Float)
    (r : ℕ) : Type 0 where
  pub answer : PictureFit
  pub beyond : ℕ
  pub rectification : Rectification img f a b answer beyond
  pub tells : Told answer (flat_numbers answer beyond) counts counts' fit fit' r

abbrev pub FlattenedOver : Image → FrameSpec → Lent → Lent → List ℕ → List ℕ → List Float → List Float → ℕ → Type 0
FlattenedOver img f a b counts counts' fit fit' r =
    Over (short counts 12 || short fit 14) (capture_first img f) r
    ((b ≡ a) × (counts' ≡ counts) × (fit' ≡ fit))
    (Flattened img f a b counts counts' fit fit' r)
