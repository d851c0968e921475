-- `patches` reads what `most_patches` prints: a theorem that a reader can cite (requirements, 22.8). proofs/Counted
-- shows it. Assumes nothing.
use Rattle.std.specs.Prelude.{ℕ, ◌≡◌, List, ◌++◌}
use Rattle.patch_text.specs.Text.{blank, feed, field, Reads}
use Rattle.patch_text.specs.Text as patches
use Rattle.checkerboard.specs.Board.{board, reserved}
use Rattle.checkerboard_text.specs.Text.{Asks, Answered}

-- the line of a mask of w by h with ⌈w·h/2⌉ patches, with which its patch list begins
abbrev pub count_line : ℕ → ℕ → List ℕ
count_line w h = field w blank ++ field h blank ++ field (reserved w h) feed

-- what `most_patches` prints for a size, t, `patches` reads as that mask, and what it prints for it, u, begins with
-- this line
pub record Counted (w h : ℕ) (t : List ℕ) : Type 0 where
  pub reads : Reads t w h (board w h)
  pub counts : (u : List ℕ) → patches.Answered t u → (rest : List ℕ) × (u ≡ count_line w h ++ rest)

-- [22.8] for every size that the program takes
abbrev pub PatchesCounts : Type 0
PatchesCounts = (b t : List ℕ) (w h : ℕ) → Asks b w h → Answered b t → Counted w h t
