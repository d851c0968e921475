-- What the score of an accepted card says, which number a record gets, and which card: theorems that a reader can cite
-- (requirements, 21). proofs/Scored shows them. Assumes nothing.
use Rattle.std.specs.Prelude.{ℕ, ◌≤◌, ◌<◌, ◌≡◌, List, T, length, get_or, Result, Ok}
use Rattle.std.specs.Float.{nan, binary64}
use Rattle.std.specs.Float.Ieee.{fits}
use Rattle.frame.specs.Image.{Image}
use Rattle.frame.specs.Refusals.{number_of, lowest_of}
use Rattle.frame.specs.declared.FrameSpec.{FrameSpec}
use Rattle.frame.specs.declared.refusals.Refusal.{Refusal}
use Rattle.fit.specs.Promises.{sampled_cells}
use Rattle.fit.specs.First.{Sampled, HasTapOutside}
use Rattle.fit.specs.Grid.{fisher}
use Rattle.fit.specs.Numbers.{fit_numbers}
use Rattle.fit.specs.declared.Grade.{Grade}
use Rattle.fit.specs.declared.Grade.TheVariants.{Score}
use Rattle.search.specs.declared.Outcome.TheVariants.{Graded}
use Rattle.fit_geometry.specs.declared.PictureFit.{PictureFit}
use Rattle.book.specs.Layout.{record_of}
use Rattle.book.specs.declared.FitRecord.{FitRecord}
use Rattle.geometry.specs.Promises.{canonical_length, warp_tests, record_tests, RecordWarping}
use Rattle.geometry.specs.Rectification.{Lent, Rectification}

-- [21.1, 21.5] an accepted card has 16 sampled cells or more, its fit takes no tap of theirs outside the picture, and
-- its score is that of this fit: no lens term is taken "without any evidence"
abbrev pub AcceptedScored : Type 0
AcceptedScored =
    (img : Image) (f : FrameSpec) (a b : Lent) (r : PictureFit) (beyond : ℕ)
    → Rectification img f a b r beyond
    → number_of r.places ≡ 0
    → (16 ≤ sampled_cells f)
    × ((column row : ℕ) → Sampled f column row → HasTapOutside img f r.stage.fit column row → ⊥)
    × (r.stage.kept ≡ Graded (Score (fisher img f r.stage.fit (sampled_cells f))))

-- [21.8] what `warp_record` is refused by, and 0 where it is not: what refuses `warp_with`, 1 to 4, next 16 for "any
-- grade but 0"
pub data RecordRefusal (img : Image) (f : FrameSpec) (kept : FitRecord) (c : List ℕ) (n : ℕ) : Type 0 where
  warp : 1 ≤ n → n ≤ 4 → n ≡ lowest_of (warp_tests img f c) → RecordRefusal img f kept c n
  unscored_record : n ≡ 16 → lowest_of (warp_tests img f c) ≡ 0 → (kept.grade ≡ 0 → ⊥) → RecordRefusal img f kept c n
  none : n ≡ 0 → lowest_of (warp_tests img f c) ≡ 0 → kept.grade ≡ 0 → RecordRefusal img f kept c n

abbrev pub RecordGiven : Type 0
RecordGiven =
    (img : Image) (f : FrameSpec) (kept : FitRecord) (c : List ℕ)
    → RecordRefusal img f kept c (lowest_of (record_tests img f kept c))

-- [21.7] the record of an accepted card, for numbers that are f64 as in book/Meaning: `warp_record` takes it, and lays
-- the card again that `rectify` laid, with the same number beside it
abbrev pub RecordLays : Type 0
RecordLays =
    (img : Image) (f : FrameSpec) (a b : Lent) (r : PictureFit) (beyond panel camera : ℕ) (g : Grade) (c c' : List ℕ)
    (n : Result ℕ Refusal)
    → Rectification img f a b r beyond
    → number_of r.places ≡ 0
    → r.stage.kept ≡ Graded g
    → length r.stage.fit.h.m ≡ 9
    → ((i : ℕ) → i < 13 → T (fits binary64 (get_or (fit_numbers r.stage.fit) i nan)))
    → length c ≡ canonical_length f
    → RecordWarping img f (record_of panel camera g r.stage.fit) c c' n
    → (n ≡ Ok beyond) × (c' ≡ b.canonical)
