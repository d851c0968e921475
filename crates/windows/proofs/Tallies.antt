-- The tallies of all rectangles: begun, one patch more, and read back. Assumes nothing.
use Prim.Native.Nat.{ℕ, ◌+◌, ◌≤◌, ◌<◌}
use native.Mathlib.Nat.{le_refl}
use native.Mathlib.Omega.{arith}
use mathlib.Core.Path.{◌≡◌, refl, ap, ◌∙◌}
use mathlib.Core.List.{List, ◌++◌}
use lib.ListN.{length, get_or, take, drop, replicate, length-replicate}
use lib.Seq.{get_or-take}
use Rattle.base.specs.Loops.{filled}
use Rattle.base.proofs.Pick.{cond_elim}
use Rattle.base.proofs.Turns.{turns_begin, turns_step, turns_each}
use Rattle.base.proofs.Plane.{length_filled, filled_at, filled_over, filled_cong, filled_replicate}
use Rattle.base.proofs.Parts.{filled_lent}
use Rattle.windows.specs.Rectangles.{rectangle_at, box_at, touches}
use Rattle.windows.specs.Steps.{met, no_tally, tally_of, tallies}
use Rattle.windows.specs.declared.Rectangle.{Rectangle}
use Rattle.windows.specs.declared.tally.Tally.{Tally}

pub tally_same : {t u : Tally} → t.count ≡ u.count → t.first ≡ u.first → t.nearest ≡ u.nearest → t ≡ u
tally_same a b c = λ z. record { count = a z; first = b z; nearest = c z }

-- ---- the tally of one rectangle over the patches
module _ (t : ℕ → Rectangle) (r : Rectangle) where
  tally_begin : no_tally ≡ tally_of t 0 r
  unfolding tally_of
  tally_begin = turns_begin _ _

  tally_step : (j : ℕ) → met r (t j) j (tally_of t j r) ≡ tally_of t (j + 1) r
  unfolding tally_of
  tally_step j = turns_step _ _ j refl

  -- no more boxes than patches
  tally_few : (j : ℕ) → (tally_of t j r).count ≤ j
  unfolding tally_of met
  tally_few j =
      turns_each (λ j. met r (t j) j) no_tally (λ n x. x.count ≤ n) (omega arith)
      (λ n x h. omega (arith, cond_elim (λ z. z ≤ 1) (touches r (t n)) 1 0 (λ e. omega arith) (λ e. omega arith))) j

-- ---- the tallies of k rectangles
module _ (patches windows : List ℕ) (k : ℕ) (few : k ≤ 64) where
  abbrev none : List Tally
  none = replicate 64 no_tally

  abbrev tally : ℕ → ℕ → Tally
  tally j i = tally_of (box_at patches) j (rectangle_at windows i)

  room : k ≤ length none
  room = omega (arith, length-replicate 64 no_tally)

  pub tallies_begin : none ≡ tallies patches 0 windows k
  unfolding tallies
  tallies_begin =
      filled_replicate no_tally 64 k
      ∙ filled_cong (λ i. no_tally) (tally 0) k none (λ i l. tally_begin (box_at patches) (rectangle_at windows i))

  pub tallies_long : (j : ℕ) → length (tallies patches j windows k) ≡ 64
  unfolding tallies
  tallies_long j = length_filled (tally j) none k ∙ length-replicate 64 no_tally

  pub tallies_at : (j i : ℕ) → i < k → get_or (take k (tallies patches j windows k)) i no_tally ≡ tally j i
  unfolding tallies
  tallies_at j i l = get_or-take k (tallies patches j windows k) i no_tally l ∙ filled_at (tally j) none k i no_tally l room

  pub tallies_few : (j i : ℕ) → i < k → (get_or (take k (tallies patches j windows k)) i no_tally).count ≤ j
  tallies_few j i l = omega (arith, ap (λ (t : Tally). t.count) (tallies_at j i l), tally_few (box_at patches) (rectangle_at windows i) j)

  -- one patch more for each
  pub tallies_step : (j : ℕ) (b : Rectangle) → b ≡ box_at patches j
      → let x = take k (tallies patches j windows k) in
      filled (λ i. met (rectangle_at windows i) b j (get_or x i no_tally)) k x ++ drop k (tallies patches j windows k)
      ≡ tallies patches (j + 1) windows k
  unfolding tallies
  tallies_step j b e =
      let x = tallies patches j windows k in
      let rect : ℕ → Rectangle = rectangle_at windows in
      let next : ℕ → Tally = λ i. met (rect i) b j (get_or (take k x) i no_tally) in
      filled_lent next x k k (le_refl k) (omega (arith, tallies_long j))
      ∙ filled_over next (tally j) k k none (le_refl k) room
      ∙ filled_cong next (tally (j + 1)) k none
      (λ i l. ap (met (rect i) b j) (tallies_at j i l) ∙ ap (λ z. met (rect i) z j (tally j i)) e ∙ tally_step (box_at patches) (rect i) j)
