-- Limits and refusals (requirements, 1.5, 1.6 and 2): what every layer shares. Assumes nothing.
use Rattle.std.specs.Prelude.{ℕ, ◌*◌, ◌<◌, ◌≡◌, Bool, cond, not, ◌&&◌, ◌||◌, List, [], ◌∷◌, ◌⊎◌, T, leb, ltb, eqb, length, Result, Ok, Err}
use Rattle.frame.specs.Image.{Image}
use Rattle.frame.specs.declared.FrameSpec.{FrameSpec}
use Rattle.frame.specs.declared.refusals.Refusal.{Refusal}
use Rattle.frame.specs.declared.refusals.Refusal.TheVariants.{FrameOutside, CaptureWrong, AreaShort, CanonicalWrong, NoLayout, CaptureSmall, FewCandidates, SharedCandidate, Crooked}
use Rattle.frame.specs.declared.refusals.Refusal.TheVariants.{NoHomography, Singular, PageShort, Unprintable, Malformed, KeysFall, Unscored, RectangleWrong, BooksDiffer}

-- ---- the number of a refusal, and of an answer: 0 when accepted

abbrev pub number : Refusal → ℕ
number FrameOutside = 1
number CaptureWrong = 2
number AreaShort = 3
number CanonicalWrong = 4
number NoLayout = 5
number CaptureSmall = 6
number FewCandidates = 7
number SharedCandidate = 8
number Crooked = 9
number NoHomography = 10
number Singular = 11
number PageShort = 12
number Unprintable = 13
number Malformed = 14
number KeysFall = 15
number Unscored = 16
number RectangleWrong = 17
number BooksDiffer = 18

abbrev pub number_of : {A : Type 0} → Result A Refusal → ℕ
number_of (Ok v) = 0
number_of (Err r) = number r

-- [2.12] the lowest number that applies is given: n is the lowest number whose condition C n holds, or 0 where no
-- condition holds
pub data Lowest (C : ℕ → Type 0) (n : ℕ) : Type 0 where
  accepted : n ≡ 0 → ((k : ℕ) → C k → ⊥) → Lowest C n
  refused : C n → ((k : ℕ) → k < n → C k → ⊥) → Lowest C n

-- a refusal and the test that calls for it
pub record Check : Type 0 where
  pub refusal : Refusal
  pub holds : Bool

abbrev pub check : Refusal → Bool → Check
check r b = record { refusal = r; holds = b }

-- one of the tests calls for n
abbrev pub Tested : ℕ → List Check → Type 0
Tested n [] = ⊥
Tested n (c ∷ l) = ((n ≡ number c.refusal) × T c.holds) ⊎ Tested n l

-- the number of the first test of a list that holds, or 0: the lowest, in a list whose numbers rise
unfoldable pub lowest_of : List Check → ℕ
lowest_of [] = 0
lowest_of (c ∷ l) = cond c.holds (number c.refusal) (lowest_of l)

-- [2.16] the answer of a call with these tests: the refusal of the first that holds, and else the value
unfoldable pub answer_for : {A : Type 0} → List Check → A → Result A Refusal
answer_for [] v = Ok v
answer_for (c ∷ l) v = cond c.holds (Err c.refusal) (answer_for l v)

-- ---- limits

-- [1.5, 1.6] sides are 1 to 4,096
unfoldable pub side : ℕ → Bool
side n = leb 1 n && leb n 4096

-- [1.6] a cell is 1 to 512
unfoldable pub cell_held : ℕ → Bool
cell_held n = leb 1 n && leb n 512

-- [2.1] 1: a frame number is outside its limit; [1.6] sides 1 to 4,096, cell 1 to 512, margin 0 to 4,096
unfoldable pub frame_outside : FrameSpec → Bool
frame_outside f = not (side f.width && side f.height && cell_held f.cell && leb f.margin 4096)

-- [2.13] lone w and h are capture sides
unfoldable pub sides_wrong : ℕ → ℕ → Bool
sides_wrong w h = not (side w && side h)

-- [2.2] 2: a capture side is outside its limit, or the number of bytes is wrong
unfoldable pub capture_wrong : Image → Bool
capture_wrong img = not (side img.w && side img.h && eqb (length img.bytes) (3 * img.w * img.h))

-- [2.6] 6: a capture side is below 32
unfoldable pub capture_small : Image → Bool
capture_small img = ltb img.w 32 || ltb img.h 32

-- `cols`, `rows`, `frame_spec`, `FrameSpec::new`
unfoldable pub frame_tests : FrameSpec → List Check
frame_tests f = check FrameOutside (frame_outside f) ∷ []

-- `Radial::new`: [2.13] lone w and h are capture sides
unfoldable pub side_tests : ℕ → ℕ → List Check
side_tests w h = check CaptureWrong (sides_wrong w h) ∷ []

-- `bilinear`
unfoldable pub capture_tests : Image → List Check
capture_tests img = check CaptureWrong (capture_wrong img) ∷ []
