-- What the steps of the search ask, so that no index is out of range and no number too large. Assumes nothing.
use Rattle.std.specs.Prelude.{ℕ, ◌*◌, ◌%◌, ◌≤◌, ◌<◌, ◌≡◌, List, length, get_or}
use Rattle.blobs.specs.Patches.{Dark, Touch, total, one}
use Rattle.blobs.specs.Stack.{Marking, marking, stack_of}

abbrev pub at : List ℕ → ℕ → ℕ
at s q = get_or s q 0

-- the marks are as long as the mask and hold 0 and 1, and no more pixels wait than are marked
pub record Held (m : List ℕ) (a : Marking) : Type 0 where
  pub long : length a.seen ≡ length m
  pub flags : (q : ℕ) → at a.seen q ≤ 1
  pub fewer : length a.waiting ≤ total one (at a.seen) (length m)

-- the same of the areas: the waiting list is as long as the mask, and its lowest t entries are the stack
pub record Stacked (m s k : List ℕ) (t : ℕ) : Type 0 where
  pub held : Held m (marking s (stack_of k t))
  pub long : length k ≡ length m

-- p is a pixel of a mask whose rows are w long and whose size is within the limits
pub record Pixel (m : List ℕ) (w p : ℕ) : Type 0 where
  pub inside : p < length m
  pub wide : 0 < w
  pub narrow : w ≤ 4096
  pub whole : length m % w ≡ 0
  pub small : length m ≤ 16777216

-- around each marked pixel all dark ones are marked
abbrev pub Closed : List ℕ → ℕ → List ℕ → Type 0
Closed m w s = (q r : ℕ) → at s q ≡ 1 → Touch w q r → Dark m r → at s r ≡ 1

-- a patch begins at a: a dark pixel, not marked, beside whole patches that are
pub record Ready (m : List ℕ) (w : ℕ) (s : List ℕ) (a : ℕ) : Type 0 where
  pub pixel : Pixel m w a
  pub long : length s ≡ length m
  pub flags : (q : ℕ) → at s q ≤ 1
  pub dark : Dark m a
  pub unseen : at s a ≡ 0
  pub closed : Closed m w s

-- a mask of w by h pixels, with sides within the limits
pub record Sized (m : List ℕ) (w h : ℕ) : Type 0 where
  pub wide : 1 ≤ w
  pub narrow : w ≤ 4096
  pub high : 1 ≤ h
  pub low : h ≤ 4096
  pub size : length m ≡ w * h
