-- What list and page hold before a call (host/vectors/page.py). Assumes nothing.
use Rattle.std.specs.Prelude.{ℕ, ◌/◌, ◌%◌, max, List, Float, length, replicate}
use Rattle.std.specs.Float.{binary64}
use Rattle.std.specs.Float.Ieee.{of_bits}
use Rattle.base.specs.Loops.{filled}
use Rattle.vectors.specs.Words.{word_of}

abbrev pub float_for : List ℕ → ℕ → Float
float_for words k = of_bits binary64 (word_of words (k % max (length words / 8) 1))

-- every entry of a list, from the words "over and over"
abbrev pub over_and_over : List ℕ → List Float → List Float
over_and_over words list = filled (float_for words) (length list) list

-- "every byte of the page is a tilde"
abbrev pub tildes : List ℕ → List ℕ
tildes page = replicate (length page) 126
