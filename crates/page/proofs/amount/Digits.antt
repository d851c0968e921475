-- `units_of` from an `f64`'s pattern: the digits times the scale, with a half added, shifted down. Assumes nothing.
use mathlib.Core.Path.{◌≡◌, sym, ap, ◌∙◌, subst}
use mathlib.Core.Logic.{inl, inr}
use mathlib.Core.Bool.{Bool, not}
use Prim.Native.Nat.{ℕ, suc, ◌+◌, ◌-◌, ◌*◌, ◌/◌, ◌%◌, ◌^◌, ◌≤◌, ◌<◌}
use native.Mathlib.Nat.{le_trans, le_of_eq, le_of_lt, lt_of_lt_of_le, lt_of_le_of_lt, one-mul, mul_right_comm, mul-le-mul, mod-eq_of_lt}
use native.Mathlib.Nat.{mul-lt-mul_of_pos_right, mul-le-mul_right, lt_irrefl}
use native.Mathlib.Numerals.{add-one}
use native.Mathlib.Omega.{arith}
use lib.Dec.{T, leb, lit≤, lit<}
use lib.Pow.{pow_pos, pow_mono, pow-lt, shl_lt}
use lib.Ieee.{Float, nan, inf, fin, binary64, up, down, fits, is_nan, to_bits}
use lib.Ieee.Fits.{down_pos}
use lib.Ieee.Exact.{HasValue}
use lib.Ieee.Nearest.{div_same}
use Rattle.float.proofs.Patterns.{shift, Value, read_own}
use Rattle.float.proofs.Halves.{cross, double_pos, cut, nothing}
use Rattle.page.specs.Amounts.{units_of}
use Rattle.page.specs.Steps.{Narrow}
use Rattle.page.specs.Steps.Narrow.{narrow}

-- ---- with x's value written in any way
pub units_at : (x : Float) (d : ℕ) (s : Bool) (a c : ℕ) → 0 < c → HasValue x s a c → units_of d x ≡ (a * d * 2 + c) / (c * 2)
unfolding units_of
units_at nan d s a c C h = absurd h
units_at (inf t) d s a c C h = absurd h
units_at (fin t m e) d s a c C h =
    div_same (m * up e * d * 2 + down e) (down e * 2) (a * d * 2 + c) (c * 2) (double_pos (down e) (down_pos e)) (double_pos c C)
    (cross (m * up e * d) (down e) (a * d) c (mul_right_comm (m * up e) d c ∙ ap (λ z. z * d) h.1 ∙ mul_right_comm a (down e) d))

-- ---- what is narrow is a number, and lies below 2 ^ 52
pub narrow_number : (x : Float) → Narrow x → T (not (is_nan x))
unfolding is_nan
narrow_number nan (narrow s m e p h) = absurd (subst (λ y. T (not (is_nan y))) (sym p) tt)
narrow_number (inf t) n = tt
narrow_number (fin t m e) n = tt

-- d digits times 2 ^ j over 2 ^ 1074, with j from 1074 on, is 2 ^ 52 or more
narrow_low : (x : Float) (s : Bool) (t j : ℕ) → Narrow x → HasValue x s ((2 ^ 52 + t) * 2 ^ j) (2 ^ 1074) → j < 1074
narrow_low x s t j (narrow r m e p h) v = go (rw p at v)
  where
    low : (2 ^ 52 + t) * 2 ^ j * down e ≡ m * up e * 2 ^ 1074 → j < 1074
    low k = native.Mathlib.Nat.lt_of_not-le (λ (g : 1074 ≤ j). lt_irrefl (m * up e * 2 ^ 1074)
        (lt_of_lt_of_le (mul-lt-mul_of_pos_right h (pow_pos 1074)) (le_trans (large g) (le_of_eq k))))
      where
        large : 1074 ≤ j → 100000 * down e * 2 ^ 1074 ≤ (2 ^ 52 + t) * 2 ^ j * down e
        large g = le_trans (le_of_eq (mul_right_comm 100000 (down e) (2 ^ 1074))) (mul-le-mul_right (down e) (mul-le-mul (more t) (pow_mono g)))
          where
            more : (t : ℕ) → 100000 ≤ 2 ^ 52 + t
            more t = omega arith

    go : HasValue (fin r m e) s ((2 ^ 52 + t) * 2 ^ j) (2 ^ 1074) → j < 1074
    go v = low (sym v.1)

infinite : (x : Float) (s : Bool) → Narrow x → x ≡ inf s → ⊥
infinite x s (narrow r m e p h) q = cc

module _ (x : Float) (d : ℕ) (F : T (fits binary64 x)) (R : Narrow x) (D : d ≤ 1000) where
  abbrev b : ℕ
  b = to_bits binary64 x

  abbrev e : ℕ
  e = b % 2 ^ 63 / 2 ^ 52

  abbrev half : ℕ
  half = 1 * 2 ^ (1074 - e) % 2 ^ 64

  value : Value (leb (2 ^ 63) b) e (b % 2 ^ 52) x
  value = read_own x F (narrow_number x R)

  pub exponent_low : e < 1075
  exponent_low =
      elim value [
        | inl v ↦ first e v.0
        | inr (inl v) ↦ next e v.0 v.1 (narrow_low x (leb (2 ^ 63) b) (b % 2 ^ 52) v.0 R v.3)
        | inr (inr v) ↦ absurd (infinite x (leb (2 ^ 63) b) R v.1)
      ]
    where
      first : (e : ℕ) → e ≡ 0 → e < 1075
      first e h = omega arith

      next : (e j : ℕ) → e ≡ suc j → j < 1074 → e < 1075
      next e j h k = omega arith

  half_is : 1012 ≤ e → half ≡ 2 ^ (1074 - e)
  half_is lo = ap (λ z. z % 2 ^ 64) (one-mul (2 ^ (1074 - e))) ∙ mod-eq_of_lt (pow-lt (go e lo))
    where
      go : (e : ℕ) → 1012 ≤ e → 1074 - e < 64
      go e h = omega arith

  -- as the code has it
  pub shifted : 1012 ≤ e → ((2 ^ 52 + b % 2 ^ 52) * d + half) / 2 ^ (1074 - e + 1) ≡ units_of d x
  shifted lo =
      elim value [
        | inl v ↦ absurd (none e lo v.0)
        | inr (inl v) ↦ go v.0 v.1 v.3
        | inr (inr v) ↦ absurd (infinite x (leb (2 ^ 63) b) R v.1)
      ]
    where
      none : (e : ℕ) → 1012 ≤ e → e ≡ 0 → ⊥
      none e h k = omega arith

      sum : (e j : ℕ) → e < 1075 → e ≡ suc j → j + (1074 - e) ≡ 1073
      sum e j h k = omega arith

      go : (j : ℕ) → e ≡ suc j → HasValue x (leb (2 ^ 63) b) ((2 ^ 52 + b % 2 ^ 52) * 2 ^ j) (2 ^ 1074)
          → ((2 ^ 52 + b % 2 ^ 52) * d + half) / 2 ^ (1074 - e + 1) ≡ units_of d x
      go j k v =
          let n = 2 ^ 52 + b % 2 ^ 52 in
          ap (λ z. (n * d + z) / 2 ^ (1074 - e + 1)) (half_is lo)
          ∙ ap (λ z. (n * d + 2 ^ (1074 - e)) / 2 ^ z) (add-one (1074 - e))
          ∙ sym (cut (n * d) j (1074 - e) (sum e j exponent_low k))
          ∙ ap (λ z. (z * 2 + 2 ^ 1074) / (2 ^ 1074 * 2)) (mul_right_comm n d (2 ^ j))
          ∙ sym (units_at x d (leb (2 ^ 63) b) (n * 2 ^ j) (2 ^ 1074) (pow_pos 1074) v)

  -- less than half a part
  pub nothing_left : e < 1012 → 0 ≡ units_of d x
  nothing_left hi =
      elim value [
        | inl v ↦ go (b % 2 ^ 52) 0 (less b) (lit≤ tt) v.1
        | inr (inl v) ↦ go (2 ^ 52 + b % 2 ^ 52) v.0 (more b) (low_j e v.0 hi v.1) v.3
        | inr (inr v) ↦ absurd (infinite x (leb (2 ^ 63) b) R v.1)
      ]
    where
      less : (y : ℕ) → y % 2 ^ 52 < 2 ^ 53
      less y = omega arith

      more : (y : ℕ) → 2 ^ 52 + y % 2 ^ 52 < 2 ^ 53
      more y = omega arith

      low_j : (e j : ℕ) → e < 1012 → e ≡ suc j → 63 + (j + 1) ≤ 1074
      low_j e j h k = omega arith

      product : (n : ℕ) → n < 2 ^ 53 → n * d < 2 ^ 63
      product n h = lt_of_le_of_lt (mul-le-mul (le_of_lt h) D) (lit< tt)

      go : (n j : ℕ) → n < 2 ^ 53 → 63 + (j + 1) ≤ 1074 → HasValue x (leb (2 ^ 63) b) (n * 2 ^ j) (2 ^ 1074) → 0 ≡ units_of d x
      go n j N J v =
          sym (nothing (n * 2 ^ j * d) (2 ^ 1074) (pow_pos 1074) small)
          ∙ sym (units_at x d (leb (2 ^ 63) b) (n * 2 ^ j) (2 ^ 1074) (pow_pos 1074) v)
        where
          small : n * 2 ^ j * d * 2 < 2 ^ 1074
          small =
              lt_of_le_of_lt (le_of_eq (ap (λ z. z * 2) (mul_right_comm n (2 ^ j) d) ∙ shift (n * d) j 1))
              (lt_of_lt_of_le (shl_lt 63 (j + 1) (product n N)) (pow_mono J))
