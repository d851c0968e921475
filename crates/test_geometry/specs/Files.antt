-- What the words of a capture file say (host/comparison/src/bin/captures.rs). Assumes nothing.
use Rattle.std.specs.Prelude.{ℕ, ◌≤◌, ◌≡◌, List}
use Rattle.vectors.specs.Words.{word_of}
use Rattle.test_geometry.specs.declared.file.Sizes.{Sizes}

-- "six 64-bit words, little-endian (w, h, and the frame's width, height, cell, margin)"; the areas have room for what
-- is answered
pub record HeadedBy (b : List ℕ) (s : Sizes) : Type 0 where
  pub w : s.w ≡ word_of b 0
  pub h : s.h ≡ word_of b 1
  pub width : s.frame.width ≡ word_of b 2
  pub height : s.frame.height ≡ word_of b 3
  pub cell : s.frame.cell ≡ word_of b 4
  pub margin : s.frame.margin ≡ word_of b 5
  pub pixels : s.pixels ≤ 40000
  pub bytes : s.bytes ≤ 1080000
