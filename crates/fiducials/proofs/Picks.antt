-- Which candidate lies further out, and that `pick` names one of them. Assumes nothing.
use mathlib.Core.Bool.{Bool, true, false, not, cond}
use Prim.Native.Nat.{ℕ, zero, suc, ◌≤◌, ◌<◌}
use native.Mathlib.Omega.{arith}
use lib.Dec.{T}
use lib.Ieee.{is_nan}
use Rattle.frame.specs.declared.Point.{Point}
use Rattle.base.specs.Loops.{turns}
use Rattle.fiducials.specs.declared.pick.Corner.{Corner}
use Rattle.fiducials.specs.Corners.{key, further, pick_step, pick}
use Rattle.fiducials.specs.declared.pick.Corner.TheVariants.{TL, TR, BR, BL}
use Rattle.float.proofs.Ordering.{lt_step, step_lt, lt_trans, lt_irrefl}

-- `further` is a strict weak order on centres whose keys are numbers
abbrev pub Number : Corner → Point → Type 0
Number c p = T (not (is_nan (key c p)))

pub further_trans : (c : Corner) (p q r : Point) → T (further c p q) → T (further c q r) → T (further c p r)
unfolding further
further_trans TL p q r h k = lt_trans (key TL p) (key TL q) (key TL r) h k
further_trans TR p q r h k = lt_trans (key TR r) (key TR q) (key TR p) k h
further_trans BR p q r h k = lt_trans (key BR r) (key BR q) (key BR p) k h
further_trans BL p q r h k = lt_trans (key BL p) (key BL q) (key BL r) h k

-- what lies further out than q does so than r, which lies no further out than q
pub further_step : (c : Corner) (p q r : Point) → Number c r → T (further c p q) → T (not (further c r q)) → T (further c p r)
unfolding further
further_step TL p q r n h k = lt_step (key TL p) (key TL q) (key TL r) h k n
further_step TR p q r n h k = step_lt (key TR r) (key TR q) (key TR p) k h n
further_step BR p q r n h k = step_lt (key BR r) (key BR q) (key BR p) k h n
further_step BL p q r n h k = lt_step (key BL p) (key BL q) (key BL r) h k n

pub further_irrefl : (c : Corner) (p : Point) → T (not (further c p p))
unfolding further
further_irrefl TL p = lt_irrefl (key TL p)
further_irrefl TR p = lt_irrefl (key TR p)
further_irrefl BR p = lt_irrefl (key BR p)
further_irrefl BL p = lt_irrefl (key BL p)

pub pick_upto : (c : Corner) (p : ℕ → Point) (n : ℕ) → turns n (pick_step c p) 0 ≤ n
unfolding turns
pick_upto c p zero = omega arith
pick_upto c p (suc n) = up n (further c (p n) (p (turns n (pick_step c p) 0))) (turns n (pick_step c p) 0) (pick_upto c p n)
  where
    up : (n : ℕ) (t : Bool) (b : ℕ) → b ≤ n → cond t n b ≤ suc n
    up n true b h = omega arith
    up n false b h = omega arith

-- b is the furthest out of the first n, and the first of equals
pub record Best (c : Corner) (p : ℕ → Point) (n b : ℕ) : Type 0 where
  pub none_further : (i : ℕ) → i < n → T (not (further c (p i) (p b)))
  pub first : (i : ℕ) → i < b → T (further c (p b) (p i))

-- the pick is one of the candidates
below : (n : ℕ) (t : Bool) (b : ℕ) → b ≤ n → cond t n b ≤ n
below n true b h = omega arith
below n false b h = h

pub pick_below : (c : Corner) (p : ℕ → Point) (n : ℕ) → 0 < n → pick c p n < n
unfolding pick turns
pick_below c p zero h = absurd (omega arith)
pick_below c p (suc n) h =
    let l : cond (further c (p n) (p (turns n (pick_step c p) 0))) n (turns n (pick_step c p) 0) ≤ n =
    below n (further c (p n) (p (turns n (pick_step c p) 0))) (turns n (pick_step c p) 0) (pick_upto c p n) in
    omega arith
