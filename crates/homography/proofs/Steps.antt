-- Steps of the elimination, by their tests. Assumes nothing.
use mathlib.Core.Path.{◌≡◌, refl, sym, ap, ◌∙◌}
use mathlib.Core.Bool.{true, false, not, ◌&&◌}
use mathlib.Core.List.{List}
use Prim.Native.Nat.{ℕ, ◌+◌, ◌≤◌}
use lib.Ieee.{Float, lt}
use Rattle.std.specs.Prelude.{Some, None}
use Rattle.base.specs.Loops.{turns}
use Rattle.base.proofs.Turns.{turns_leave}
use Rattle.base.proofs.Pick.{pick_yes, pick_no}
use Rattle.float.specs.Floats.{abs_of}
use Rattle.homography.specs.Arithmetic.{rounded}
use Rattle.homography.specs.Elimination.{entry, better, pivot_of, swapped, divided, clear_at, Elimination, eliminate, eliminated, no_pivot, cleared, solvable, solution, last_column}
use Rattle.homography.specs.Inner.{unknowns}

-- a later row is the pivot only by a larger absolute value
module _ (a : List Float) (col r p : ℕ) where
  pub better_yes : lt (abs_of (entry rounded a p col)) (abs_of (entry rounded a r col)) ≡ true → r ≡ better rounded a col r p
  unfolding better
  better_yes e = pick_yes _ _ _ e

  pub better_no : lt (abs_of (entry rounded a p col)) (abs_of (entry rounded a r col)) ≡ false → p ≡ better rounded a col r p
  unfolding better
  better_no e = pick_no _ _ _ e

-- one column, from its three steps
pub column_cleared :
    (a b x : List Float) (col p : ℕ)
    → p ≡ pivot_of rounded a col → b ≡ swapped rounded a col p → x ≡ divided rounded b col col (entry rounded b col col)
    → turns 8 (clear_at rounded col) x ≡ cleared rounded a col
unfolding cleared
column_cleared a b x col p e f g =
    ap (turns 8 (clear_at rounded col)) (g ∙ ap (λ y. divided rounded y col col (entry rounded y col col)) (f ∙ ap (swapped rounded a col) e))

-- the elimination that goes on with a, and that has ended with it
abbrev pub on : List Float → Elimination Float
on a = record { going = true; matrix = a }

abbrev off : List Float → Elimination Float
off a = record { going = false; matrix = a }

pub goes : (a : List Float) (col : ℕ) → no_pivot rounded a col ≡ false → on (cleared rounded a col) ≡ eliminate rounded col (on a)
unfolding eliminate
goes a col e = pick_yes (true && not (no_pivot rounded a col)) _ _ (ap not e)

stops : (a : List Float) (col : ℕ) → no_pivot rounded a col ≡ true → eliminate rounded col (on a) ≡ off a
unfolding eliminate
stops a col e = sym (pick_no (true && not (no_pivot rounded a col)) _ _ (ap not e))

stays : (a : List Float) (col : ℕ) → eliminate rounded col (off a) ≡ off a
unfolding eliminate
stays a col = refl

-- a column without pivot is the end
pub halted :
    (a₀ a : List Float) (col : ℕ) → on a ≡ turns col (eliminate rounded) (on a₀) → col + 1 ≤ 8 → no_pivot rounded a col ≡ true
    → None ≡ unknowns a₀
unfolding solvable eliminated unknowns
halted a₀ a col e h r =
    pick_no _ _ _ (ap (λ t. t.going) (turns_leave (eliminate rounded) (on a₀) (off a) (stays a) col 8 e (stops a col r) h))

-- every column had one
pub finished : (a₀ a : List Float) → on a ≡ eliminated rounded a₀ → Some (last_column rounded a) ≡ unknowns a₀
unfolding solvable solution unknowns
finished a₀ a e =
    ap (λ t. Some (last_column rounded t.matrix)) e ∙ pick_yes _ _ _ (sym (ap (λ t. t.going) e))
