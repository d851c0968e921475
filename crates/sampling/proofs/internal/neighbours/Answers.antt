-- `sampling::internal::neighbours` meets its contract. The held coordinate's whole part is below n, so it is its floor's too. Assumes nothing.
use lib.Ieee.{Float, of_bits, of_int, round}
use Prim.Native.Nat.{min, ℕ, ◌<◌, ◌≤◌, ◌+◌, ◌-◌}
use native.Mathlib.Omega.{arith}
use mathlib.Core.Path.{◌≡◌, sym, ap, ◌∙◌}
use Rattle.float.specs.Floats.{◌⊖◌, f64, d64, floor_of, as_usize, clamp_of}
use Rattle.sampling.specs.Reading.{held, neighbours_of}
use Rattle.sampling.specs.declared.Neighbours.{Neighbours}
use Rattle.sampling.proofs.Whole.{first_is, whole_in}
use Rattle.sampling.proofs.internal.neighbours.Goals as goal

built : (n : ℕ) (t x : Float) (first next : ℕ) (y : Float) → x ≡ held n t → first ≡ as_usize (floor_of (held n t)) → next
    ≡ min (first + 1) (n - 1) → y ≡ f64 first → ◌≡◌ {A = Neighbours} (record { first = first; next = next; part = x ⊖ y }) (neighbours_of n
    t)
unfolding neighbours_of
built n t x first next y p q r s = cc

-- the coordinate, held to the side, and its whole part
module _ (n : ℕ) (t : Float) where
  clamped : (y c : Float) → y ≡ f64 n → c ≡ clamp_of (f64 0) (y ⊖ f64 1) (t ⊖ d64 5 10) → c ≡ held n t
  clamped y c e d = d ∙ ap (λ z. clamp_of (f64 0) (z ⊖ f64 1) (t ⊖ d64 5 10)) e

  below : (c : Float) (first : ℕ) → 1 ≤ n → n ≤ 4096 → c ≡ held n t → first ≡ as_usize c → first < n
  below c first low high e d = omega (arith, d ∙ ap as_usize e, whole_in n t low high)

pub overflow_add-first : goal.overflow_add-first
unfolding of_bits of_int d64 round
overflow_add-first c =
    let a = c.args in
    let held = clamped a.n a.t _ _ c.to_f64.ensures c.clamp-c.ensures in
    record { fits = omega (arith, below a.n a.t _ _ (omega arith) (omega arith) held c.to_usize-first.ensures) }

pub to_f64-requires-2 : goal.to_f64-requires-2
unfolding of_bits of_int d64 round
to_f64-requires-2 c =
    let a = c.args in
    let held = clamped a.n a.t _ _ c.to_f64.ensures c.clamp-c.ensures in
    omega (arith, below a.n a.t _ _ (omega arith) (omega arith) held c.to_usize-first.ensures)

pub returns : goal.returns
unfolding of_bits of_int d64 round
returns c =
    let a = c.args in
    let held = clamped a.n a.t _ _ c.to_f64.ensures c.clamp-c.ensures in
    let floor = sym (first_is a.n a.t (omega arith) (omega arith)) in
    built a.n a.t _ _ _ _ held (c.to_usize-first.ensures ∙ ap as_usize held ∙ floor) c.min.ensures c.to_f64-2.ensures
