-- What the program `most_patches` reads and prints (requirements, 22.5 to 22.7). Assumes nothing.
use Rattle.std.specs.Prelude.{ℕ, ◌≤◌, ◌≡◌, List, ◌++◌, length, take}
use Rattle.patch_text.specs.Text.{blank, feed, field, mask_text, refused_text}
use Rattle.checkerboard.specs.Board.{board}

-- [22.5] the text b is width, a blank, height and a line feed, in decimals without leading zeros and nothing more;
-- [22.6] up to 64 by 64
pub record Asks (b : List ℕ) (w h : ℕ) : Type 0 where
  pub wide : 1 ≤ w
  pub narrow : w ≤ 64
  pub high : 1 ≤ h
  pub low : h ≤ 64
  pub text : b ≡ field w blank ++ field h feed

-- t is what the program prints for the text b: [22.6] the mask; [22.7] on anything else `refused 2`
pub data Answered (b t : List ℕ) : Type 0 where
  accepted : (w h : ℕ) → Asks b w h → t ≡ mask_text w h (board w h) → Answered b t
  refused : ((w h : ℕ) → Asks b w h → ⊥) → t ≡ refused_text → Answered b t

-- .. for every input b that it may have read: n bytes of the buffer are the first of b, as many as fit, or all
abbrev pub AnsweredWhole : List ℕ → ℕ → List ℕ → Type 0
AnsweredWhole buffer n t = (b : List ℕ) → take n buffer ≡ take (length buffer) b → Answered b t
