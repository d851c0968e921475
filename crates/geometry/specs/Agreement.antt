-- [14.3] no answer depends on what the work areas held before: what two calls of `rectify` on one capture and frame
-- have in common, whatever was lent and however long it is, where the same tests hold. proofs/Determined shows it from
-- what `rectify` promises. Assumes nothing.
use Rattle.std.specs.Prelude.{ℕ, ◌≡◌}
use Rattle.frame.specs.Image.{Image}
use Rattle.frame.specs.Refusals.{number_of}
use Rattle.fit_geometry.specs.Agreement.{SameFit}
use Rattle.fit_geometry.specs.declared.PictureFit.{PictureFit}
use Rattle.geometry.specs.Rectification.{Lent}

-- what two calls left in b and b', and their answers; refusal is the number that the tests give, 0 where none holds
pub record Agreement (img : Image) (b b' : Lent) (r r' : PictureFit) (beyond beyond' refusal : ℕ) : Type 0 where
  -- the whole answer, and planes, marks and records
  pub fit : SameFit img b.areas b'.areas r r' refusal
  pub beyond_same : beyond ≡ beyond'
  -- the canonical image; a refused call leaves each as it was
  pub canonical : number_of r.places ≡ 0 → b.canonical ≡ b'.canonical
