-- [14.3] no answer depends on what the work areas held before: what two calls of `fit_geometry` on one capture and
-- frame have in common, whatever the areas held and however long they are. proofs/Determined shows it from what the
-- function promises. Assumes nothing.
use Rattle.std.specs.Prelude.{ℕ, ◌≡◌, List}
use Rattle.frame.specs.Image.{Image}
use Rattle.frame.specs.Refusals.{Check, lowest_of}
use Rattle.candidates.specs.Agreement.{SameLook}
use Rattle.candidates.specs.Areas.{Areas}
use Rattle.fit_geometry.specs.declared.PictureFit.{PictureFit}

-- the tests of two calls refuse neither, or both by the same number; so it is where the same tests hold
abbrev pub SameTests : List Check → List Check → Type 0
SameTests t t' = lowest_of t ≡ lowest_of t'

-- what two calls left in b and b', and their answers; refusal is the number that the tests give, 0 where none holds
pub record SameFit (img : Image) (b b' : Areas) (r r' : PictureFit) (refusal : ℕ) : Type 0 where
  -- the whole answer
  pub answer : r ≡ r'
  -- planes, marks and records; a test that refuses a call leaves its areas as they were. The cell means are free.
  pub look : refusal ≡ 0 → SameLook img b b' r.counts.patches r.counts.candidates
