-- The pattern of the `f32` nearest to an `f64`, from the `f64`'s pattern. Assumes nothing.
use Rattle.std.proofs.Common.{◌≡◌, ℕ, suc, ◌+◌, ◌-◌, ◌*◌, ◌/◌, ◌%◌, ◌^◌, ◌<◌, ◌≤◌, Bool, cond, ◌⊎◌, sym, refl, ap, ◌∙◌, subst, inl, inr, le_trans, le_of_eq, lt_of_lt_of_le, lt_of_le_of_lt, mul-le-mul_right, mul_comm, div-lt_iff_lt-mul, eq-or-lt_of_le, mul-pos, pow-suc, le-div_iff_mul-le, mul-one, arith, lit<, lit≤, pow_pos, pow_mono, pow-add, shl_lt}
use native.Mathlib.Nat.{div-eq_of_lt}
use lib.Ieee.{Float, nan, inf, fin, binary32, up, down, size, units, round, to_bits}
use lib.Ieee.Digits.{size-le}
use lib.Ieee.Fits.{down_pos, round_is}
use lib.Ieee.Exact.{HasValue}
use lib.Ieee.Nearest.{closest, closest_same, closest_mono}
use lib.Ieee.Scale.{round_same}
use Rattle.float.specs.Floats.{narrowed}
use Rattle.float.proofs.width.Closest.{closest_up}
use Rattle.float.proofs.Patterns.{shift, size_is, pattern, units_inf, inf_pattern}

-- x's value, written in any way
pub narrowed_at : (x : Float) (s : Bool) (a c : ℕ) → 0 < c → HasValue x s a c → narrowed x ≡ round binary32 s a c
unfolding narrowed
narrowed_at nan s a c C h = absurd h
narrowed_at (inf t) s a c C h = absurd h
narrowed_at (fin t m e) s a c C h = round_same binary32 t (m * up e) (down e) a c (down_pos e) C h.1 ∙ ap (λ (z : Bool). round binary32 z a c) h.0

-- `round`, once its digits are counted
rounded : (s : Bool) (a c k : ℕ) → size (a * 2 ^ 149 / c) - 24 ≡ k → round binary32 s a c ≡ units binary32 s (closest (a * 2 ^ 149) (c * 2 ^ k)) k
rounded s a c k e = round_is binary32 s a c ∙ ap (λ (z : ℕ). units binary32 s (closest (a * 2 ^ 149) (c * 2 ^ z)) z) e

-- ---- the digits d, with a leading one at 52, at 2 ^ (i + 896) of the smallest `f64`: the `f32` is normal
module _ (d i : ℕ) (lo : 2 ^ 52 ≤ d) (hi : d < 2 ^ 53) where
  n_is : d * 2 ^ (i + 896) * 2 ^ 149 ≡ d * 2 ^ (i + 1045)
  n_is = shift d (i + 896) 149 ∙ ap (λ (z : ℕ). d * 2 ^ z) (go i)
    where
      go : (i : ℕ) → i + 896 + 149 ≡ i + 1045
      go i = omega arith

  at_least : 2 ^ (23 + i) * 2 ^ 1074 ≤ d * 2 ^ (i + 896) * 2 ^ 149
  at_least =
      le_trans (le_of_eq (sym (pow-add 2 (23 + i) 1074) ∙ ap (λ (z : ℕ). 2 ^ z) (go i) ∙ pow-add 2 52 (i + 1045)))
      (le_trans (mul-le-mul_right (2 ^ (i + 1045)) lo) (le_of_eq (sym n_is)))
    where
      go : (i : ℕ) → 23 + i + 1074 ≡ 52 + (i + 1045)
      go i = omega arith

  at_most : d * 2 ^ (i + 896) * 2 ^ 149 < 2 ^ suc (23 + i) * 2 ^ 1074
  at_most =
      lt_of_le_of_lt (le_of_eq n_is)
      (lt_of_lt_of_le (shl_lt 53 (i + 1045) hi) (le_of_eq (ap (λ (z : ℕ). 2 ^ z) (go i) ∙ pow-add 2 (suc (23 + i)) 1074)))
    where
      go : (i : ℕ) → 53 + (i + 1045) ≡ suc (23 + i) + 1074
      go i = omega arith

  digits : size (d * 2 ^ (i + 896) * 2 ^ 149 / 2 ^ 1074) - 24 ≡ i
  digits =
      let s : size (d * 2 ^ (i + 896) * 2 ^ 149 / 2 ^ 1074) ≡ suc (23 + i) = size_is (d * 2 ^ (i + 896) * 2 ^ 149 / 2 ^ 1074) (23 + i)
      ((le-div_iff_mul-le (pow_pos 1074)).1 at_least) ((div-lt_iff_lt-mul (pow_pos 1074)).1 at_most) in
      omega arith

  cross : d * 2 ^ (i + 896) * 2 ^ 149 * 2 ^ 29 ≡ d * (2 ^ 1074 * 2 ^ i)
  cross = ap (λ (z : ℕ). z * 2 ^ 29) n_is ∙ shift d (i + 1045) 29 ∙ ap (λ (z : ℕ). d * z) (ap (λ (z : ℕ). 2 ^ z) (go i) ∙ pow-add 2 1074 i)
    where
      go : (i : ℕ) → i + 1045 + 29 ≡ 1074 + i
      go i = omega arith

  pub normal : (s : Bool) → round binary32 s (d * 2 ^ (i + 896)) (2 ^ 1074) ≡ units binary32 s (closest d (2 ^ 29)) i
  normal s =
      rounded s (d * 2 ^ (i + 896)) (2 ^ 1074) i digits
      ∙ ap (λ (z : ℕ). units binary32 s z i) (closest_same (d * 2 ^ (i + 896) * 2 ^ 149) (2 ^ 1074 * 2 ^ i) d (2 ^ 29) (mul-pos (pow_pos 1074) (pow_pos i)) (pow_pos 29) cross)

  closest_is : closest d (2 ^ 29) ≡ (d + (2 ^ 28 - 1) + d / 2 ^ 29 % 2) / 2 ^ 29
  closest_is = closest_up d (2 ^ 28) (pow_pos 28)

  closest_ge : 2 ^ 23 ≤ closest d (2 ^ 29)
  closest_ge = le_trans (go d lo) (le_of_eq (sym closest_is))
    where
      go : (d : ℕ) → 2 ^ 52 ≤ d → 2 ^ 23 ≤ (d + (2 ^ 28 - 1) + d / 2 ^ 29 % 2) / 2 ^ 29
      go d h = omega arith

  closest_le : closest d (2 ^ 29) ≤ 2 ^ 24
  closest_le = le_trans (le_of_eq closest_is) (go d hi)
    where
      go : (d : ℕ) → d < 2 ^ 53 → (d + (2 ^ 28 - 1) + d / 2 ^ 29 % 2) / 2 ^ 29 ≤ 2 ^ 24
      go d h = omega arith

  -- below 2 ^ 128 the pattern is what the sum gives, also where that carries into an infinity's
  pub normal_bits : (s : Bool) → i < 254 → to_bits binary32 (units binary32 s (closest d (2 ^ 29)) i) ≡ cond s (2 ^ 31) 0 + (i * 2 ^ 23 + closest d (2 ^ 29))
  normal_bits s h = elim (split (closest d (2 ^ 29)) i closest_le h) [ inl l ↦ pattern binary32 s (closest d (2 ^ 29)) i closest_le (inl closest_ge) l | inr e ↦ carry e ]
    where
      split : (q i : ℕ) → q ≤ 2 ^ 24 → i < 254 → (q * 2 ^ i < 2 ^ 277) ⊎ ((q ≡ 2 ^ 24) × (i ≡ 253))
      split q i Q h =
          elim (eq-or-lt_of_le Q) [
            | inl e ↦ elim (eq-or-lt_of_le (le i h)) [
              | inl z ↦ inr (e, z)
              | inr l ↦ inl (lt_of_le_of_lt (mul-le-mul_right (2 ^ i) Q)
                  (lt_of_le_of_lt (le_of_eq (sym (pow-add 2 24 i))) (lt_of_le_of_lt (pow_mono (less i l)) (lit< tt))))
            ]
            | inr l ↦ inl (lt_of_lt_of_le (shl_lt 24 i l) (pow_mono (small i h)))
          ]
        where
          le : (i : ℕ) → i < 254 → i ≤ 253
          le i h = omega arith

          less : (i : ℕ) → i < 253 → 24 + i ≤ 276
          less i h = omega arith

          small : (i : ℕ) → i < 254 → 24 + i ≤ 277
          small i h = omega arith

      carry : (closest d (2 ^ 29) ≡ 2 ^ 24) × (i ≡ 253) → to_bits binary32 (units binary32 s (closest d (2 ^ 29)) i) ≡ cond s (2 ^ 31) 0 + (i * 2 ^ 23 + closest d (2 ^ 29))
      carry e =
          ap (to_bits binary32) (units_inf binary32 s (closest d (2 ^ 29)) i (subst (λ (z : ℕ). 2 ^ 277 ≤ z * 2 ^ i) (sym e.0)
          (subst (λ (z : ℕ). 2 ^ 277 ≤ 2 ^ 24 * 2 ^ z) (sym e.1) (lit≤ tt))))
          ∙ inf_pattern binary32 s
          ∙ ap (λ (z : ℕ). cond s (2 ^ 31) 0 + z) (sum i (closest d (2 ^ 29)) e.1 e.0)
        where
          sum : (i q : ℕ) → i ≡ 253 → q ≡ 2 ^ 24 → 255 * 2 ^ 23 ≡ i * 2 ^ 23 + q
          sum i q a b = omega arith

  -- from 2 ^ 128 on
  pub overflows : (s : Bool) → 254 ≤ i → units binary32 s (closest d (2 ^ 29)) i ≡ inf s
  overflows s h = units_inf binary32 s (closest d (2 ^ 29)) i (le_trans (pow_mono (go i h)) (le_trans (le_of_eq (pow-add 2 23 i)) (mul-le-mul_right (2 ^ i) closest_ge)))
    where
      go : (i : ℕ) → 254 ≤ i → 277 ≤ 23 + i
      go i h = omega arith

-- ---- a subnormal `f32`, or one that rounds up from there: d * 2 ^ j of the smallest `f64`, with the digits below h + 1 cut off
module _ (d j h : ℕ) (hi : d < 2 ^ 53) (J : j < 897) (H : j + suc h ≡ 925) where
  few : size (d * 2 ^ j * 2 ^ 149 / 2 ^ 1074) - 24 ≡ 0
  few =
      let s : size (d * 2 ^ j * 2 ^ 149 / 2 ^ 1074) ≤ 24 =
      size-le (d * 2 ^ j * 2 ^ 149 / 2 ^ 1074) 24
      ((div-lt_iff_lt-mul (pow_pos 1074)).1
      (lt_of_le_of_lt (le_of_eq (shift d j 149)) (lt_of_lt_of_le (shl_lt 53 (j + 149) hi) (le_trans (pow_mono (go j J)) (le_of_eq (pow-add 2 24 1074)))))) in
      omega arith
    where
      go : (j : ℕ) → j < 897 → 53 + (j + 149) ≤ 24 + 1074
      go j h = omega arith

  cross_low : d * 2 ^ j * 2 ^ 149 * 2 ^ suc h ≡ d * (2 ^ 1074 * 2 ^ 0)
  cross_low = ap (λ (z : ℕ). z * 2 ^ suc h) (shift d j 149) ∙ shift d (j + 149) (suc h) ∙ ap (λ (z : ℕ). d * 2 ^ z) (go j h H)
    where
      go : (j h : ℕ) → j + suc h ≡ 925 → j + 149 + suc h ≡ 1074
      go j h e = omega arith

  pub subnormal : (s : Bool) → round binary32 s (d * 2 ^ j) (2 ^ 1074) ≡ units binary32 s (closest d (2 ^ suc h)) 0
  subnormal s =
      rounded s (d * 2 ^ j) (2 ^ 1074) 0 few
      ∙ ap (λ (z : ℕ). units binary32 s z 0) (closest_same (d * 2 ^ j * 2 ^ 149) (2 ^ 1074 * 2 ^ 0) d (2 ^ suc h) (lit< tt) (pow_pos (suc h)) cross_low)

  pub closest_low_is : closest d (2 ^ suc h) ≡ (d + (2 ^ h - 1) + d / 2 ^ suc h % 2) / 2 ^ suc h
  closest_low_is =
      ap (closest d) (pow-suc 2 h) ∙ closest_up d (2 ^ h) (pow_pos h)
      ∙ ap (λ (z : ℕ). (d + (2 ^ h - 1) + d / z % 2) / z) (sym (pow-suc 2 h))

  pub closest_low_le : 29 ≤ suc h → closest d (2 ^ suc h) ≤ 2 ^ 24
  closest_low_le g =
      le_trans (closest_mono d (2 ^ suc h) d (2 ^ 29) (pow_pos (suc h)) (pow_pos 29) (le_trans (le_of_eq (mul_comm d (2 ^ 29)))
      (le_trans (mul-le-mul_right d (pow_mono g)) (le_of_eq (mul_comm (2 ^ suc h) d)))))
      (le_trans (le_of_eq (closest_up d (2 ^ 28) (pow_pos 28))) (go d hi))
    where
      go : (d : ℕ) → d < 2 ^ 53 → (d + (2 ^ 28 - 1) + d / 2 ^ 29 % 2) / 2 ^ 29 ≤ 2 ^ 24
      go d h = omega arith

  pub subnormal_bits : (s : Bool) → 29 ≤ suc h → to_bits binary32 (units binary32 s (closest d (2 ^ suc h)) 0) ≡ cond s (2 ^ 31) 0 + closest d (2 ^ suc h)
  subnormal_bits s g =
      pattern binary32 s (closest d (2 ^ suc h)) 0 (closest_low_le g) (inr refl) (lt_of_le_of_lt (le_of_eq (mul-one _)) (lt_of_le_of_lt (closest_low_le g) (lit< tt)))
      ∙ ap (λ (z : ℕ). cond s (2 ^ 31) 0 + z) (go (closest d (2 ^ suc h)))
    where
      go : (q : ℕ) → 0 * 2 ^ 23 + q ≡ q
      go q = omega arith

  pub nothing_left : 53 ≤ h → closest d (2 ^ suc h) ≡ 0
  nothing_left g =
      let p : 2 ^ 53 ≤ 2 ^ h = pow_mono g in
      let z : d / 2 ^ suc h ≡ 0 = div-eq_of_lt (go d (2 ^ h) (2 ^ suc h) hi p (pow-suc 2 h)) in
      closest_low_is ∙ div-eq_of_lt (fit d (2 ^ h) (2 ^ suc h) (d / 2 ^ suc h) hi p (pow-suc 2 h) z)
    where
      go : (d y w : ℕ) → d < 2 ^ 53 → 2 ^ 53 ≤ y → w ≡ y * 2 → d < w
      go d y w a b c = omega arith

      fit : (d y w z : ℕ) → d < 2 ^ 53 → 2 ^ 53 ≤ y → w ≡ y * 2 → z ≡ 0 → d + (y - 1) + z % 2 < w
      fit d y w z a b c e = omega arith
