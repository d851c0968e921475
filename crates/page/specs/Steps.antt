-- What the functions behind `candidate_page` ask and do. Assumes nothing.
use Rattle.std.specs.Prelude.{ℕ, ◌*◌, ◌≤◌, ◌<◌, ◌≡◌, Bool, true, false, List, ℤ, Float, length}
use Rattle.std.specs.Float.{fin}
use Rattle.std.specs.Float.Ieee.{up, down}
use Rattle.candidates.specs.Ring.{candidate_length}
use Rattle.page.specs.Text.{digit, leading, line_length}
use Rattle.page.specs.Promises.{every_printable}
use Rattle.page.specs.declared.Row.{Row}

-- x is a number between −100000 and 100000
pub data Narrow (x : Float) : Type 0 where
  narrow : (s : Bool) (m : ℕ) (e : ℤ) → x ≡ fin s m e → m * up e < 100000 * down e → Narrow x

-- the letter for q, padded with blanks or not
abbrev pub letter_of : Bool → ℕ → ℕ
letter_of true q = leading q
letter_of false q = digit q

-- each number of a line is narrow
pub record AllNarrow (r : Row) : Type 0 where
  pub x : Narrow r.x
  pub y : Narrow r.y
  pub size : Narrow r.size
  pub score : Narrow r.score

-- no test holds, for a page of `room` bytes
pub record Fitting (c : List Float) (count room : ℕ) : Type 0 where
  pub listed : candidate_length * count ≤ length c
  pub held : line_length * count ≤ room
  pub few : count ≤ 9999
  pub printable : every_printable c count ≡ true
