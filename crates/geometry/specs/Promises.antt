-- What `warp_with` and `warp_record` do. Assumes nothing.
use Rattle.std.specs.Prelude.{ℕ, ◌*◌, ◌≤◌, ◌≡◌, Bool, not, List, [], ◌∷◌, ◌++◌, eqb, length, Result}
use Rattle.frame.specs.Image.{Image}
use Rattle.frame.specs.Refusals.{Check, check, lowest_of, answer_for, frame_outside, capture_wrong}
use Rattle.geometry.specs.Warp.{warped, beyond}
use Rattle.frame.specs.declared.FrameSpec.{FrameSpec}
use Rattle.frame.specs.declared.refusals.Refusal.{Refusal}
use Rattle.frame.specs.declared.refusals.Refusal.TheVariants.{FrameOutside, CaptureWrong, CanonicalWrong, Unscored}
use Rattle.fit.specs.declared.GeometryFit.{GeometryFit}
use Rattle.book.specs.Layout.{fit_in}
use Rattle.book.specs.declared.FitRecord.{FitRecord}

-- [2.4] 4: the canonical image's length is not 3·width·height
abbrev pub canonical_length : FrameSpec → ℕ
canonical_length f = 3 * f.width * f.height

unfoldable pub canonical_wrong : FrameSpec → ℕ → Bool
canonical_wrong f n = not (eqb n (canonical_length f))

-- [2.14] `warp_with` gives neither 5 nor 6
unfoldable pub warp_tests : Image → FrameSpec → List ℕ → List Check
warp_tests img f canonical =
    check FrameOutside (frame_outside f)
    ∷ check CaptureWrong (capture_wrong img)
    ∷ check CanonicalWrong (canonical_wrong f (length canonical))
    ∷ []

-- ---- `warp_with`
pub record Warping (img : Image) (f : FrameSpec) (fit : GeometryFit) (canonical canonical' : List ℕ)
    (a : Result ℕ Refusal) : Type 0 where
  -- [23.5] "the warp result carries the number of canonical pixels whose position was not inside"
  pub given : a ≡ answer_for (warp_tests img f canonical) (beyond img f fit)
  pub accepted : lowest_of (warp_tests img f canonical) ≡ 0 → canonical' ≡ warped img f fit canonical
  pub refused : 1 ≤ lowest_of (warp_tests img f canonical) → canonical' ≡ canonical

-- ---- `warp_record`

-- [21.8] "refuses any grade but 0 after 1 to 4": 16, for a record that no book can hold too. No work area is lent, and
-- so 3 is not among them
unfoldable pub record_tests : Image → FrameSpec → FitRecord → List ℕ → List Check
record_tests img f kept canonical = warp_tests img f canonical ++ (check Unscored (not (eqb kept.grade 0)) ∷ [])

pub record RecordWarping (img : Image) (f : FrameSpec) (kept : FitRecord) (canonical canonical' : List ℕ)
    (a : Result ℕ Refusal) : Type 0 where
  pub given : a ≡ answer_for (record_tests img f kept canonical) (beyond img f (fit_in kept))
  -- [21.7] "does `warp_with` of its matrix and lens"
  pub accepted : lowest_of (record_tests img f kept canonical) ≡ 0 → canonical' ≡ warped img f (fit_in kept) canonical
  -- [21.9] "canonical image untouched"
  pub refused : 1 ≤ lowest_of (record_tests img f kept canonical) → canonical' ≡ canonical
