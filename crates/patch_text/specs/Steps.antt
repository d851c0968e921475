-- What the steps of reading and printing do. Assumes nothing.
use Rattle.std.specs.Prelude.{ℕ, ◌+◌, ◌-◌, ◌*◌, ◌/◌, ◌%◌, ◌≤◌, ◌<◌, ◌≡◌, Bool, cond, ◌||◌, Option, Some, None, List, ◌++◌, eqb, length, get_or, take}
use Rattle.base.specs.Loops.{table}
use Rattle.patch_text.specs.declared.read.Size.{Size}
use Rattle.patch_text.specs.Text.{hash, dot, feed, Reads}

-- r is the place of the first line feed, or the length where there is none
pub record FirstFeed (b : List ℕ) (r : ℕ) : Type 0 where
  pub within : r ≤ length b
  pub before : (k : ℕ) → k < r → get_or b k 0 ≡ feed → ⊥
  pub found : r < length b → get_or b r 0 ≡ feed

-- the length of the text with its last line feed
unfoldable pub closed_length : List ℕ → ℕ
closed_length b = cond (eqb (get_or b (length b - 1) 0) feed) (length b) (length b + 1)

-- the byte c may stand in column x: a line feed in column w, a letter elsewhere
unfoldable pub placed : ℕ → ℕ → ℕ → Bool
placed w x c = cond (eqb x w) (eqb c feed) (eqb c hash || eqb c dot)

unfoldable pub placed_at : List ℕ → ℕ → ℕ → Bool
placed_at b w k = placed w (k % (w + 1)) (get_or b k 0)

unfoldable pub pixel_of : ℕ → ℕ
pixel_of c = cond (eqb c hash) 1 0

-- pixel i of a text whose lines have w letters
unfoldable pub pixel_at : List ℕ → ℕ → ℕ → ℕ
pixel_at b w i = pixel_of (get_or b (i / w * (w + 1) + i % w) 0)

-- the size of the mask that the text is, if it is one
abbrev pub Measured : List ℕ → Option Size → Type 0
Measured b (Some s) = Reads b s.w s.h (table (pixel_at b s.w) (s.w * s.h))
Measured b None = (w h : ℕ) (m : List ℕ) → Reads b w h m → ⊥

-- t was written from `at` up to r
pub record Written (o o' : List ℕ) (at r most : ℕ) (t : List ℕ) : Type 0 where
  pub text : take r o' ≡ take at o ++ t
  pub from : at ≤ r
  pub to : r ≤ at + most
