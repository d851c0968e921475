-- What `checkerboard` does (requirements, 22). Assumes nothing.
use Rattle.std.specs.Prelude.{ℕ, ◌*◌, ◌≤◌, ◌≡◌, List, [], ◌∷◌, ltb, length}
use Rattle.base.specs.Loops.{filled}
use Rattle.frame.specs.Refusals.{Check, check, lowest_of, sides_wrong}
use Rattle.frame.specs.declared.refusals.Refusal.TheVariants.{CaptureWrong, AreaShort}
use Rattle.checkerboard.specs.Board.{square_at}

-- by the mask's length. [22.9] 2: the size is outside the capture limits; [22.10] 3: the mask area is short
unfoldable pub board_tests : ℕ → ℕ → ℕ → List Check
board_tests w h mask = check CaptureWrong (sides_wrong w h) ∷ check AreaShort (ltb mask (w * h)) ∷ []

-- the mask area becomes mask'; number is the answer's
pub record Drawing (w h : ℕ) (mask mask' : List ℕ) (number : ℕ) : Type 0 where
  -- [2.12] the lowest number that applies is given
  pub given : number ≡ lowest_of (board_tests w h (length mask))
  -- [22.3] the checkerboard at its start; [17.6] a longer area keeps its rest
  pub accepted : lowest_of (board_tests w h (length mask)) ≡ 0 → mask' ≡ filled (square_at w) (w * h) mask
  -- [2.17] refused: no memory is touched
  pub refused : 1 ≤ lowest_of (board_tests w h (length mask)) → mask' ≡ mask
