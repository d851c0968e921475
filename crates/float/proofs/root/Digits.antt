-- The loop of `root_by_digits`: one binary digit of a root a turn. Assumes nothing.
use Rattle.std.proofs.Common.{◌≡◌, ℕ, ◌+◌, ◌-◌, ◌*◌, ◌/◌, ◌%◌, ◌^◌, ◌<◌, ◌≤◌, sym, ap, ◌∙◌, subst, lt_of_lt_of_le, mul_assoc, le_antisymm, pow-suc, add-one, arith, pow_mono}
use Rattle.float.proofs.root.Squares.{sq_even, sq_next}

-- after i turns r is the root of the first i digits of a * 2 ^ 52 to the base 4, e what is left of them, and `rest` the digits to come
pub record State (a rest r e i : ℕ) : Type 0 where
  pub count : i ≤ 53
  pub parts : a * 4 ^ i ≡ (r * r + e) * 2 ^ 54 + rest
  pub rest_lt : rest < 2 ^ 54
  pub left : e ≤ r * 2
  pub small : r < 2 ^ i
  pub fits : r < 2 ^ 53

pub start : (a : ℕ) → a < 2 ^ 54 → State a a 0 0 0
start a h = record { count = omega arith; parts = omega arith; rest_lt = h; left = omega arith; small = omega arith; fits = omega arith }

times_four : (a i : ℕ) → a * 4 ^ (i + 1) ≡ a * 4 ^ i * 4
times_four a i = ap (λ (k : ℕ). a * 4 ^ k) (add-one i) ∙ ap (λ (k : ℕ). a * k) (pow-suc 4 i) ∙ sym (mul_assoc a (4 ^ i) 4)

twice : (i : ℕ) → 2 ^ (i + 1) ≡ 2 ^ i * 2
twice i = ap (λ (k : ℕ). 2 ^ k) (add-one i) ∙ pow-suc 2 i

-- the digit n brought down
module _ (a rest r e i : ℕ) (s : State a rest r e i) (I : i < 53) where
  abbrev next : ℕ
  next = e * 4 + rest / 2 ^ 52

  parts_of : (A S rest e : ℕ) → A ≡ (S + e) * 2 ^ 54 + rest → A * 4 ≡ (S * 4 + (e * 4 + rest / 2 ^ 52)) * 2 ^ 54 + rest % 2 ^ 52 * 4
  parts_of A S rest e h = omega arith

  down : a * 4 ^ (i + 1) ≡ (r * r * 4 + next) * 2 ^ 54 + rest % 2 ^ 52 * 4
  down = times_four a i ∙ parts_of (a * 4 ^ i) (r * r) rest e s.parts

  pow_le : 2 ^ (i + 1) ≤ 2 ^ 53
  pow_le = pow_mono (go i I)
    where
      go : (i : ℕ) → i < 53 → i + 1 ≤ 53
      go i h = omega arith

  small_odd : (r p q : ℕ) → r < p → q ≡ p * 2 → r * 2 + 1 < q
  small_odd r p q h e = omega arith

  small_even : (r p q : ℕ) → r < p → q ≡ p * 2 → r * 2 < q
  small_even r p q h e = omega arith

  rest_of : (y : ℕ) → y % 2 ^ 52 * 4 < 2 ^ 54
  rest_of y = omega arith

  pub step_one : r * 4 < next → State a (rest % 2 ^ 52 * 4) (r * 2 + 1) (next - r * 4 - 1) (i + 1)
  step_one h =
      let q : (r * 2 + 1) * (r * 2 + 1) ≡ r * r * 4 + (r * 4 + 1) =
      let u = sq_next (r * 2) in
      let v = sq_even r in
      omega arith in
      let l = small_odd r (2 ^ i) (2 ^ (i + 1)) s.small (twice i) in
      record {
        count = omega arith;
        parts = down ∙ ap (λ (z : ℕ). z * 2 ^ 54 + rest % 2 ^ 52 * 4) (same (r * r * 4) next ((r * 2 + 1) * (r * 2 + 1)) r q h);
        rest_lt = rest_of rest;
        left = fine rest e r s.rest_lt s.left;
        small = l;
        fits = lt_of_lt_of_le l pow_le;
      }
    where
      same : (S n Q r : ℕ) → Q ≡ S + (r * 4 + 1) → r * 4 < n → S + n ≡ Q + (n - r * 4 - 1)
      same S n Q r a b = omega arith

      fine : (rest e r : ℕ) → rest < 2 ^ 54 → e ≤ r * 2 → e * 4 + rest / 2 ^ 52 - r * 4 - 1 ≤ (r * 2 + 1) * 2
      fine rest e r a b = omega arith

  pub step_zero : next ≤ r * 4 → State a (rest % 2 ^ 52 * 4) (r * 2) next (i + 1)
  step_zero h =
      let l = small_even r (2 ^ i) (2 ^ (i + 1)) s.small (twice i) in
      record {
        count = omega arith;
        parts = down ∙ ap (λ (z : ℕ). (z + next) * 2 ^ 54 + rest % 2 ^ 52 * 4) (sym (sq_even r));
        rest_lt = rest_of rest;
        left = fine next r h;
        small = l;
        fits = lt_of_lt_of_le l pow_le;
      }
    where
      fine : (n r : ℕ) → n ≤ r * 4 → n ≤ r * 2 * 2
      fine n r a = omega arith

pub finish : (a rest r e i : ℕ) → State a rest r e i → 53 ≤ i → a * 2 ^ 52 ≡ r * r + e
finish a rest r e i s h = go a (r * r + e) rest (subst (λ (k : ℕ). a * 4 ^ k ≡ (r * r + e) * 2 ^ 54 + rest) (le_antisymm s.count h) s.parts) s.rest_lt
  where
    go : (a n rest : ℕ) → a * 4 ^ 53 ≡ n * 2 ^ 54 + rest → rest < 2 ^ 54 → a * 2 ^ 52 ≡ n
    go a n rest h k = omega arith

pub same : {a rest r e i : ℕ} (r' e' : ℕ) → State a rest r e i → r' ≡ r → e' ≡ e → State a rest r' e' i
same {a} {rest} {r} {e} {i} r' e' s p q = subst (λ (z : ℕ). State a rest z e' i) (sym p) (subst (λ (z : ℕ). State a rest r z i) (sym q) s)
