-- The root of d * 2 ^ (g + 50) units of 2 ^ -2148, for digits d with their leading one at 52: its pattern, and that it is `sqrt_of`. Assumes nothing.
use Rattle.std.proofs.Common.{◌≡◌, ℕ, zero, suc, ◌+◌, ◌-◌, ◌*◌, ◌/◌, ◌%◌, ◌^◌, ◌<◌, ◌≤◌, Bool, true, false, not, T, ltb, ◌⊎◌, sym, refl, ap, ◌∙◌, subst, inl, inr, le_trans, le_of_eq, lt_of_lt_of_le, lt_of_le_of_lt, mul-le-mul_right, mod-eq_of_lt, mul_assoc, mul-pos, pow-suc, lt_of_not-le, zero-add, not-le_of_lt, mul-div_cancel, arith, lit<, lit≤, pow_pos, pow-add, shl_lt}
use lib.Pow.{pow-lt}
use lib.Ieee.{Float, nan, inf, fin, binary64, down, size, odd, units, fits, is_nan, nan_bits, of_bits}
use lib.Ieee.Fits.{down_pos, odd-fits, cond-fits, inf-fits}
use lib.Ieee.Bits.{of_bits-to_bits, nan_bits_is}
use lib.Ieee.Exact.{HasValue, units_val}
use lib.Ieee.Positive.{positive, positive_of_value}
use Rattle.base.proofs.Arith.{zero_or_one}
use Rattle.float.specs.Root.{in_units, nearest_root, sqrt_of, NearestRoot}
use Rattle.float.proofs.root.Squares.{nearest_root_lem, Nearest, sq_mono}
use Rattle.float.proofs.Numbers.{units_number}
use Rattle.float.proofs.Patterns.{shift, size_is, pattern}
use Rattle.float.proofs.root.Bound.{in_units_lem, bound}

even_or_odd : (g : ℕ) → (g % 2 ≡ 0) ⊎ (g % 2 ≡ 1)
even_or_odd g = zero_or_one (g % 2) (omega arith)

pub four_pow : (k : ℕ) → 4 ^ k ≡ 2 ^ (k + k)
four_pow zero = refl
four_pow (suc k) = pow-suc 4 k ∙ ap (λ (z : ℕ). z * 4) (four_pow k) ∙ sym (pow-add 2 (k + k) 2) ∙ ap (λ (z : ℕ). 2 ^ z) (go k)
  where
    go : (k : ℕ) → k + k + 2 ≡ suc k + suc k
    go k = omega arith

module _ (d g : ℕ) (lo : 2 ^ 52 ≤ d) (hi : d < 2 ^ 53) (g-lo : 900 ≤ g) (g-hi : g < 3072) where
  abbrev a : ℕ
  a = d * 2 ^ (g % 2)

  a_in : (2 ^ 52 ≤ a) × (a < 2 ^ 54)
  a_in = elim (even_or_odd g) [
    | inl e ↦ subst (λ (z : ℕ). (2 ^ 52 ≤ d * 2 ^ z) × (d * 2 ^ z < 2 ^ 54)) (sym e) (omega arith, omega arith)
    | inr e ↦ subst (λ (z : ℕ). (2 ^ 52 ≤ d * 2 ^ z) × (d * 2 ^ z < 2 ^ 54)) (sym e) (omega arith, omega arith)
  ]

  pub shl_is : a % 2 ^ 64 ≡ a
  shl_is = mod-eq_of_lt (lt_of_lt_of_le a_in.1 (lit≤ tt))

  pub shl_lt54 : a % 2 ^ 64 < 2 ^ 54
  shl_lt54 = lt_of_le_of_lt (le_of_eq shl_is) a_in.1

  abbrev q : ℕ
  q = nearest_root (a * 2 ^ 52)

  abbrev k : ℕ
  k = g / 2 - 1

  near : Nearest (a * 2 ^ 52) q
  near = nearest_root_lem (a * 2 ^ 52) (go a a_in.0) (room a a_in.1)
    where
      go : (a : ℕ) → 2 ^ 52 ≤ a → 0 < a * 2 ^ 52
      go a h = omega arith

      room : (a : ℕ) → a < 2 ^ 54 → a * 2 ^ 52 < 4 ^ 53
      room a h = omega arith

  q_ge : 2 ^ 52 ≤ q
  q_ge = bound q near.over
    where
      four : (a : ℕ) → 2 ^ 52 ≤ a → 2 ^ 106 ≤ a * 2 ^ 52 * 4
      four a h = omega arith

      bound : (q : ℕ) → a * 2 ^ 52 * 4 < (q * 2 + 1) * (q * 2 + 1) → 2 ^ 52 ≤ q
      bound q h =
          let l : 2 ^ 53 < q * 2 + 2 =
          lt_of_not-le (λ (g : q * 2 + 2 ≤ 2 ^ 53). not-le_of_lt h (le_trans (sq_mono (le_trans (go q g) (le_of_eq refl))) (four a a_in.0))) in
          omega arith
        where
          go : (q : ℕ) → q * 2 + 2 ≤ 2 ^ 53 → q * 2 + 1 ≤ 2 ^ 53
          go q h = omega arith

  pub q_le : q ≤ 2 ^ 53
  q_le = bound q near.under
    where
      four : (a : ℕ) → a < 2 ^ 54 → a * 2 ^ 52 * 4 ≤ 2 ^ 54 * 2 ^ 54
      four a h = omega arith

      bound : (q : ℕ) → (q * 2 - 1) * (q * 2 - 1) < a * 2 ^ 52 * 4 → q ≤ 2 ^ 53
      bound q h =
          let l : q * 2 - 1 < 2 ^ 54 = lt_of_not-le (λ (g : 2 ^ 54 ≤ q * 2 - 1). not-le_of_lt h (le_trans (four a a_in.1) (sq_mono g))) in
          omega arith

  room : q * 2 ^ k < 2 ^ 2098
  room = lt_of_le_of_lt (mul-le-mul_right (2 ^ k) q_le) (lt_of_le_of_lt (le_of_eq (sym (pow-add 2 53 k))) (pow-lt (go g g-hi)))
    where
      go : (g : ℕ) → g < 3072 → 53 + (g / 2 - 1) < 2098
      go g h = omega arith

  in_format : T (fits binary64 (units binary64 false q k))
  unfolding units
  in_format = cond-fits binary64 (ltb (q * 2 ^ k) (2 ^ 2098)) (odd 54 false q k 1074) (inf false) (odd-fits binary64 54 false q k (lt_of_le_of_lt q_le (lit< tt)) q_le room) (inf-fits binary64 false)

  pub is : of_bits binary64 (k * 2 ^ 52 + q) ≡ units binary64 false q k
  is =
      ap (of_bits binary64) (sym (pattern binary64 false q k q_le (inl q_ge) room ∙ zero-add (k * 2 ^ 52 + q)))
      ∙ of_bits-to_bits binary64 (units binary64 false q k) in_format

  pub no_nan : T (not (nan_bits binary64 (k * 2 ^ 52 + q)))
  no_nan = subst (λ (b : Bool). T (not b)) (sym (nan_bits_is binary64 (k * 2 ^ 52 + q) ∙ ap is_nan is)) (units_number binary64 false q k)

  pub pattern_lt : k * 2 ^ 52 + q < 2 ^ 64
  pattern_lt = go g q g-hi q_le
    where
      go : (g q : ℕ) → g < 3072 → q ≤ 2 ^ 53 → (g / 2 - 1) * 2 ^ 52 + q < 2 ^ 64
      go g q h l = omega arith

  -- ---- `sqrt_of`
  abbrev n : ℕ
  n = d * 2 ^ (g + 50)

  size_n : size n ≡ suc (g + 102)
  size_n =
      size_is n (g + 102)
      (le_trans (le_of_eq (ap (λ (z : ℕ). 2 ^ z) (low g) ∙ pow-add 2 52 (g + 50))) (mul-le-mul_right (2 ^ (g + 50)) lo))
      (lt_of_lt_of_le (shl_lt 53 (g + 50) hi) (le_of_eq (ap (λ (z : ℕ). 2 ^ z) (top g))))
    where
      low : (g : ℕ) → g + 102 ≡ 52 + (g + 50)
      low g = omega arith

      top : (g : ℕ) → 53 + (g + 50) ≡ suc (g + 102)
      top g = omega arith

  k_is : (size n + 1) / 2 - 53 ≡ k
  k_is = ap (λ (z : ℕ). (z + 1) / 2 - 53) size_n ∙ go g
    where
      go : (g : ℕ) → (suc (g + 102) + 1) / 2 - 53 ≡ g / 2 - 1
      go g = omega arith

  n_whole : n ≡ a * 2 ^ 52 * 4 ^ k
  n_whole =
      ap (λ (z : ℕ). d * 2 ^ z) (go g g-lo)
      ∙ sym (shift d (g % 2) (52 + (k + k)))
      ∙ ap (λ (z : ℕ). a * z) (pow-add 2 52 (k + k))
      ∙ sym (mul_assoc a (2 ^ 52) (2 ^ (k + k)))
      ∙ ap (λ (z : ℕ). a * 2 ^ 52 * z) (sym (four_pow k))
    where
      go : (g : ℕ) → 900 ≤ g → g + 50 ≡ g % 2 + (52 + (g / 2 - 1 + (g / 2 - 1)))
      go g h = omega arith

  n_is : n / 4 ^ k ≡ a * 2 ^ 52
  n_is =
      ap (λ (z : ℕ). z / 4 ^ k) n_whole
      ∙ mul-div_cancel (a * 2 ^ 52) (subst (λ (z : ℕ). 0 < z) (sym (four_pow k)) (pow_pos (k + k)))

  abbrev root_of : ℕ → Float
  root_of n = units binary64 false (nearest_root (n / 4 ^ ((size n + 1) / 2 - 53))) ((size n + 1) / 2 - 53)

  root_is : root_of n ≡ units binary64 false q k
  root_is = ap (λ (z : ℕ). units binary64 false (nearest_root (n / 4 ^ z)) z) k_is ∙ ap (λ (z : ℕ). units binary64 false (nearest_root z) k) n_is

  pub sqrt_at : (x : Float) → T (positive x) → HasValue x false n (2 ^ 2148) → sqrt_of x ≡ units binary64 false q k
  unfolding sqrt_of in_units
  sqrt_at nan p h = absurd p
  sqrt_at (inf s) p h = absurd p
  sqrt_at (fin true m e) p h = absurd p
  sqrt_at (fin false zero e) p h = absurd p
  sqrt_at (fin false (suc m) e) p h = ap root_of (ap (λ (z : ℕ). z / down e) h.1 ∙ mul-div_cancel n (down_pos e)) ∙ root_is

  pub nearest_at : (x : Float) → HasValue x false n (2 ^ 2148) → NearestRoot x (units binary64 false q k)
  nearest_at x h =
      let v : HasValue (units binary64 false q k) false (q * 2 ^ k) (2 ^ 1074) = units_val binary64 false q k room in
      bound x (units binary64 false q k) (a * 2 ^ 52) q k
      (in_units_lem x false n 2148 h ∙ n_whole ∙ ap (λ (z : ℕ). a * 2 ^ 52 * z) (four_pow k ∙ pow-add 2 k k))
      (in_units_lem (units binary64 false q k) false (q * 2 ^ k) 1074 v)
      (positive_of_value (units binary64 false q k) (q * 2 ^ k) (2 ^ 1074) v (mul-pos (lt_of_lt_of_le (pow_pos 52) q_ge) (pow_pos k)))
      q_ge near
      (λ e. subst (λ (z : ℕ). z * z ≤ a * 2 ^ 52) (sym e) (least a a_in.0))
    where
      least : (a : ℕ) → 2 ^ 52 ≤ a → 2 ^ 52 * 2 ^ 52 ≤ a * 2 ^ 52
      least a h = omega arith
