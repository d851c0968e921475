-- A pixel of the checkerboard is dark where it is an even number of steps from the first. Assumes nothing.
use Prim.Native.Nat.{ℕ, ◌+◌, ◌/◌, ◌%◌}
use mathlib.Core.Path.{◌≡◌, refl, sym}
use lib.Dec.{eqb}
use borrow.Author.Tests.{eqb-true, eq-eqb}
use Rattle.base.specs.Loops.{by_row}
use Rattle.base.proofs.Pick.{pick_yes, cond_elim}
use Rattle.checkerboard.specs.Board.{square, square_at}

-- column plus row: the steps from pixel to pixel that lead to it from the first
abbrev pub steps : ℕ → ℕ → ℕ
steps w i = i % w + i / w

pub dark_even : (w i : ℕ) → (square_at w i ≡ 0 → ⊥) → steps w i % 2 ≡ 0
unfolding square_at by_row square
dark_even w i = cond_elim (λ z. (z ≡ 0 → ⊥) → steps w i % 2 ≡ 0) (eqb (steps w i % 2) 0) 1 0 (λ e n. eqb-true _ 0 e) (λ e n. absurd (n refl))

pub even_dark : (w i : ℕ) → steps w i % 2 ≡ 0 → square_at w i ≡ 1
unfolding square_at by_row square
even_dark w i e = sym (pick_yes (eqb (steps w i % 2) 0) 1 0 (eq-eqb _ 0 e))
