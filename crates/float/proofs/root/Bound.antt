-- The bound of a root by whole squares: `NearestRoot`. Assumes nothing.
use Rattle.std.proofs.Common.{◌≡◌, ℕ, zero, suc, ◌+◌, ◌-◌, ◌*◌, ◌/◌, ◌^◌, ◌<◌, ◌≤◌, Bool, T, ◌⊎◌, pos, negsuc, sym, ap, ◌∙◌, inl, inr, le_trans, le_of_eq, lt_of_lt_of_le, lt_of_le_of_lt, le_of_lt, lt_irrefl, mul-le-mul_right, add-mul, lt_of_mul-lt-mul_right, eq-or-lt_of_le, mul-lt-mul_of_pos_right, mul-pos, one-mul, lt_of_not-le, zero-mul, mul-one, mul_right_comm, div-one, mul-div_cancel, arith, pow_pos, pow_mono, pow-add, shl_lt}
use native.Mathlib.Nat.{zero-div}
use native.Mathlib.Nat.{mul-mul-mul_comm}
use lib.Pow.{pow-lt, shl-shr}
use lib.Ieee.{Float, nan, inf, fin, binary64, up, down, fits}
use lib.Ieee.Digits.{back}
use lib.Ieee.Fits.{down_pos}
use lib.Ieee.Scale.{finite}
use lib.Ieee.Exact.{HasValue}
use lib.Ieee.Positive.{positive}
use Rattle.base.proofs.Arith.{le_or_lt}
use Rattle.float.specs.Root.{in_units, NearestRoot}
use Rattle.float.proofs.Patterns.{shift, limits}
use Rattle.float.proofs.root.Squares.{Nearest, sq_even, sq_next, sq_mono}

-- ---- a value in units
pub in_units_lem : (x : Float) (s : Bool) (a p : ℕ) → HasValue x s a (2 ^ p) → in_units p x ≡ a
unfolding in_units
in_units_lem nan s a p h = absurd h
in_units_lem (inf t) s a p h = absurd h
in_units_lem (fin t m e) s a p h = ap (λ (z : ℕ). z / down e) h.1 ∙ mul-div_cancel a (down_pos e)

-- a finite f64 is t * 2 ^ j units with fewer than 54 digits in t
record Digits (n : ℕ) : Type 0 where
  t : ℕ
  j : ℕ
  is : n ≡ t * 2 ^ j
  few : t < 2 ^ 53

pow_le_back : (i p : ℕ) → 2 ^ i ≤ 2 ^ p → i ≤ p
pow_le_back i p h =
    let l : i < suc p = lt_of_not-le (λ (g : suc p ≤ i). lt_irrefl (2 ^ p) (lt_of_lt_of_le (pow-lt g) h)) in
    omega arith

digits : (y : Float) → T (fits binary64 y) → T (finite y) → Digits (in_units 1074 y)
unfolding in_units
digits nan F N = absurd N
digits (inf s) F N = absurd N
digits (fin s zero e) F N = record {
  t = 0;
  j = 0;
  is = ap (λ (z : ℕ). z / down e) (ap (λ (z : ℕ). z * 2 ^ 1074) (zero-mul (up e))
      ∙ zero-mul (2 ^ 1074)) ∙ zero-div (down e);
  few = omega arith;
}
digits (fin s (suc m) (pos i)) F N = record { t = suc m; j = i + 1074; is = div-one (suc m * 2 ^ i * 2 ^ 1074) ∙ shift (suc m) i 1074; few = (limits s m (pos i) F).digits }
digits (fin s (suc m) (negsuc i)) F N =
    let l : suc i ≤ 1074 = pow_le_back (suc i) 1074 (limits s m (negsuc i) F).scale in
    record {
      t = suc m;
      j = 1074 - suc i;
      is = ap (λ (z : ℕ). z / 2 ^ suc i) (ap (λ (z : ℕ). suc m * 1 * 2 ^ z) (sym (back 1074 (suc i) l))
          ∙ ap (λ (z : ℕ). z * 2 ^ (1074 - suc i + suc i)) (mul-one (suc m)) ∙ sym (shift (suc m) (1074 - suc i) (suc i)))
          ∙ shl-shr (suc m * 2 ^ (1074 - suc i)) (suc i);
      few = (limits s m (negsuc i) F).digits;
    }

-- ---- the f64s beside q * 2 ^ k, for a q of 53 digits: t * 2 ^ j is another
module _ (q k t j : ℕ) (lo : 2 ^ 52 ≤ q) (few : t < 2 ^ 53) where
  coarse : k ≤ j → t * 2 ^ j ≡ t * 2 ^ (j - k) * 2 ^ k
  coarse h = ap (λ (z : ℕ). t * 2 ^ z) (sym (back j k h)) ∙ sym (shift t (j - k) k)

  fine : j < k → t * 2 ^ j < 2 ^ 52 * 2 ^ k
  fine h = lt_of_lt_of_le (shl_lt 53 j few) (le_trans (pow_mono (go j k h)) (le_of_eq (pow-add 2 52 k)))
    where
      go : (j k : ℕ) → j < k → 53 + j ≤ 52 + k
      go j k h = omega arith

  gap_above : q * 2 ^ k < t * 2 ^ j → (q + 1) * 2 ^ k ≤ t * 2 ^ j
  gap_above h =
      elim (le_or_lt k j) [
        | inl l ↦
            let c = coarse l in
            let s : q < t * 2 ^ (j - k) = lt_of_mul-lt-mul_right (2 ^ k) (lt_of_lt_of_le h (le_of_eq c)) in
            le_trans (mul-le-mul_right (2 ^ k) (next q (t * 2 ^ (j - k)) s)) (le_of_eq (sym c))
        | inr l ↦ absurd (lt_irrefl (q * 2 ^ k) (lt_of_lt_of_le h (le_trans (le_of_lt (fine l)) (mul-le-mul_right (2 ^ k) lo))))
      ]
    where
      next : (a b : ℕ) → a < b → a + 1 ≤ b
      next a b h = omega arith

  gap_below : t * 2 ^ j < q * 2 ^ k → (t * 2 ^ j + 2 ^ k ≤ q * 2 ^ k) ⊎ (q ≡ 2 ^ 52)
  gap_below h =
      elim (le_or_lt k j) [
        | inl l ↦
            let c = coarse l in
            let s : t * 2 ^ (j - k) < q = lt_of_mul-lt-mul_right (2 ^ k) (lt_of_le_of_lt (le_of_eq (sym c)) h) in
            inl (le_trans (le_of_eq (ap (λ (z : ℕ). z + 2 ^ k) c)) (more (t * 2 ^ (j - k)) q (2 ^ k) s))
        | inr l ↦ elim (eq-or-lt_of_le lo) [ inl e ↦ inr (sym e) | inr g ↦ inl (le_trans (add (t * 2 ^ j) (2 ^ 52 * 2 ^ k) (2 ^ k) (fine l)) (more (2 ^ 52) q (2 ^ k) g)) ]
      ]
    where
      more : (a b m : ℕ) → a < b → a * m + m ≤ b * m
      more a b m h = le_trans (le_of_eq (ap (λ (z : ℕ). a * m + z) (sym (one-mul m)) ∙ sym (add-mul a 1 m))) (mul-le-mul_right m (next a b h))
        where
          next : (a b : ℕ) → a < b → a + 1 ≤ b
          next a b h = omega arith

      add : (a b m : ℕ) → a < b → a + m ≤ b + m
      add a b m h = omega arith

-- ---- the squares. q is the nearest to √n, M the unit, and a units lie beside q * M
module _ (n q M a : ℕ) (P : 0 < M) where
  abbrev s : ℕ
  s = a + q * M

  scale : n * (M * M) * 4 ≡ n * 4 * (M * M)
  scale = mul_right_comm n (M * M) 4

  sq_above : n * 4 < (q * 2 + 1) * (q * 2 + 1) → (q + 1) * M ≤ a → n * (M * M) * 4 < s * s
  sq_above h l =
      let e : (q * 2 + 1) * M ≡ q * M * 2 + M = add-mul (q * 2) 1 M ∙ ap (λ (z : ℕ). z + 1 * M) (mul_right_comm q 2 M) ∙ ap (λ (z : ℕ). q * M * 2 + z) (one-mul M) in
      let f : (q + 1) * M ≡ q * M + M = add-mul q 1 M ∙ ap (λ (z : ℕ). q * M + z) (one-mul M) in
      let g : (q * 2 + 1) * M ≤ a + q * M = omega arith in
      lt_of_le_of_lt (le_of_eq scale)
      (lt_of_lt_of_le (mul-lt-mul_of_pos_right h (mul-pos P P))
      (le_trans (le_of_eq (sym (mul-mul-mul_comm (q * 2 + 1) M (q * 2 + 1) M))) (sq_mono g)))

  sq_below : 0 < q → (q * 2 - 1) * (q * 2 - 1) < n * 4 → a + M ≤ q * M → s * s < n * (M * M) * 4
  sq_below p h l =
      let e : q * 2 - 1 + 1 ≡ q * 2 = omega arith in
      let f : (q * 2 - 1) * M + M ≡ q * M * 2 =
      ap (λ (z : ℕ). (q * 2 - 1) * M + z) (sym (one-mul M)) ∙ sym (add-mul (q * 2 - 1) 1 M) ∙ ap (λ (z : ℕ). z * M) e ∙ mul_right_comm q 2 M in
      let g : a + q * M ≤ (q * 2 - 1) * M = omega arith in
      lt_of_le_of_lt (sq_mono g)
      (lt_of_le_of_lt (le_of_eq (mul-mul-mul_comm (q * 2 - 1) M (q * 2 - 1) M))
      (lt_of_lt_of_le (mul-lt-mul_of_pos_right h (mul-pos P P)) (le_of_eq (sym scale))))

  sq_least : q * q ≤ n → a < q * M → s * s < n * (M * M) * 4
  sq_least h l =
      let e : q * M * 2 * (q * M * 2) ≡ q * M * (q * M) * 4 = sq_even (q * M) in
      let f : q * M * (q * M) ≤ n * (M * M) = le_trans (le_of_eq (mul-mul-mul_comm q M q M)) (mul-le-mul_right (M * M) h) in
      let g : s * s < q * M * 2 * (q * M * 2) = sq_lt s (q * M * 2) (omega arith) in
      omega arith
    where
      sq_lt : (x y : ℕ) → x < y → x * x < y * y
      sq_lt x y h =
          let k : (x + 1) * (x + 1) ≤ y * y = sq_mono (omega arith) in
          let m : (x + 1) * (x + 1) ≡ x * x + x * 2 + 1 = sq_next x in
          omega arith

pub bound : (x r : Float) (n q k : ℕ) → in_units 2148 x ≡ n * (2 ^ k * 2 ^ k) → in_units 1074 r ≡ q * 2 ^ k → T (positive r) → 2 ^ 52 ≤ q
    → Nearest n q → (q ≡ 2 ^ 52 → q * q ≤ n) → NearestRoot x r
bound x r n q k X R P lo near least = record {
  number = P;
  above = λ y F N h.
      let d = digits y F N in
      rw (X, R, d.is)
      (sq_above n q (2 ^ k) (d.t * 2 ^ d.j) (pow_pos k) near.over
      (gap_above q k d.t d.j lo d.few (rw (R, d.is) at h)));
  below = λ y F N h.
      let d = digits y F N in
      let l : d.t * 2 ^ d.j < q * 2 ^ k = rw (R, d.is) at h in
      rw (X, R, d.is)
      (elim (gap_below q k d.t d.j lo d.few l) [
        | inl g ↦ sq_below n q (2 ^ k) (d.t * 2 ^ d.j) (pow_pos k) (lt_of_lt_of_le (pow_pos 52) lo) near.under g
        | inr e ↦ sq_least n q (2 ^ k) (d.t * 2 ^ d.j) (pow_pos k) (least e) l
      ]);
}
