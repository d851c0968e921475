-- Laws of `every`. Assumes nothing.
use mathlib.Core.Path.{◌≡◌, refl, sym, ap, ◌∙◌}
use mathlib.Core.Bool.{Bool, true, false, ◌&&◌, true≢false}
use mathlib.Core.Logic.{⊎_elim}
use Prim.Native.Nat.{ℕ, zero, suc, ◌+◌, ◌<◌}
use native.Mathlib.Omega.{arith}
use Rattle.base.specs.Loops.{turns, every}
use Rattle.base.proofs.Arith.{last_or}
use Rattle.base.proofs.Tests.{and_left, and_right, and_both, not_first, not_second}
use Rattle.base.proofs.Turns.{turns_none, turns_more, turns_stay}

module _ (p : ℕ → Bool) where
  abbrev step : ℕ → Bool → Bool
  step i held = held && p i

  -- a loop's first head, a turn, an early end, and the end
  pub every_begin : every 0 p ≡ true
  unfolding every
  every_begin = turns_none step true

  pub every_suc : (i : ℕ) → every (i + 1) p ≡ (every i p && p i)
  unfolding every
  every_suc i = turns_more step true i

  pub every_more : (i : ℕ) → every i p ≡ true → p i ≡ true → every (i + 1) p ≡ true
  every_more i h k = every_suc i ∙ and_both (every i p) (p i) h k

  pub every_stops : (i n : ℕ) → i < n → p i ≡ false → every n p ≡ false
  unfolding every
  every_stops i n h k =
      turns_stay step true (λ b. b ≡ false) (λ j b e. not_first (p j) e) (i + 1) n (omega arith)
      (turns_more step true i ∙ not_second (turns i step true) k)

  pub every_end : (k n : ℕ) → every k p ≡ true → k ≡ n → every n p ≡ true
  every_end k n h e = ap (λ i. every i p) (sym e) ∙ h

  -- by meaning
  pub every_one : (n : ℕ) → every n p ≡ true → (i : ℕ) → i < n → p i ≡ true
  unfolding every turns
  every_one zero h i k = absurd (omega arith)
  every_one (suc n) h i k = ⊎_elim
      (λ e. ap p e ∙ and_right (every n p) (p n) h)
      (λ l. every_one n (and_left (every n p) (p n) h) i l)
      (last_or i n k)

  pub one_every : (n : ℕ) → ((i : ℕ) → i < n → p i ≡ true) → every n p ≡ true
  unfolding every turns
  one_every zero f = refl
  one_every (suc n) f = and_both (every n p) (p n) (one_every n (λ i k. f i (omega arith))) (f n (omega arith))

  pub every_fails : (n : ℕ) → every n p ≡ false → (i : ℕ) × (i < n) × (p i ≡ false)
  unfolding every turns
  every_fails zero h = absurd (true≢false h)
  every_fails (suc n) h = go (every n p) (λ e. every_fails n e) h
    where
      go : (b : Bool) → (b ≡ false → (i : ℕ) × (i < n) × (p i ≡ false)) → (b && p n) ≡ false → (i : ℕ) × (i < suc n) × (p i ≡ false)
      go true e k = (n, omega arith, k)
      go false e k = let r = e refl in (r.0, omega (arith, r.1), r.2)
