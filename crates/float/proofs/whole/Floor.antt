-- `x.floor() as usize` is `x as usize` for every x, so the port needs no floor of its own. Assumes nothing.
use Rattle.std.proofs.Common.{◌≡◌, ℕ, zero, suc, ◌+◌, ◌-◌, ◌*◌, ◌/◌, ◌^◌, ◌<◌, min, Bool, true, false, cond, T, ltb, pos, negsuc, sym, refl, ap, ◌∙◌, subst, true≢false, le_of_eq, lt_of_lt_of_le, lt_of_le_of_lt, mul-lt-mul_of_pos_right, zero-mul, mul-one, div-le_self, div-one, mul-div_cancel, lit<, lit≤, pow_pos, pow_mono, pow-add, shl_lt}
use native.Mathlib.Nat.{zero-div}
use lib.Ieee.{Float, nan, inf, fin, binary64, up, down, odd, units, round, fits, to_unsigned}
use lib.Ieee.Fits.{down_pos, round_is}
use lib.Ieee.Exact.{HasValue, round_exact}
use Rattle.float.specs.Floats.{floor_of, as_usize}
use Rattle.float.proofs.Patterns.{shift, limits}

-- what is below zero saturates
negative : (q k : ℕ) → to_unsigned 64 (units binary64 true q k) ≡ 0
unfolding units
negative q k = go (ltb (q * 2 ^ k) (2 ^ 2098)) (odd 54 true q k 1074) (odd_none q k)
  where
    go : (b : Bool) (x : Float) → to_unsigned 64 x ≡ 0 → to_unsigned 64 (cond b x (inf true)) ≡ 0
    go true x h = h
    go false x h = unfold to_unsigned in refl

    odd_none : (q k : ℕ) → to_unsigned 64 (odd 54 true q k 1074) ≡ 0
    odd_none zero k = unfold odd to_unsigned in refl
    odd_none (suc q) k = unfold odd to_unsigned in refl

-- the whole part of a number that is n
held : (x : Float) (n : ℕ) → HasValue x false n 1 → to_unsigned 64 x ≡ min n (2 ^ 64 - 1)
unfolding to_unsigned
held nan n h = absurd h
held (inf s) n h = absurd h
held (fin true m e) n h = absurd (true≢false h.0)
held (fin false m e) n h = ap (λ (z : ℕ). min z (2 ^ 64 - 1)) (ap (λ (z : ℕ). z / down e) (sym (mul-one (m * up e)) ∙ h.1) ∙ mul-div_cancel n (down_pos e))

-- q * 2 ^ j units that are a whole number n stay it
exact : (n q j : ℕ) → q < 2 ^ 53 → q * 2 ^ j < 2 ^ 2098 → n * 2 ^ 1074 ≡ q * 2 ^ j → to_unsigned 64 (round binary64 false n 1) ≡ min n (2 ^ 64 - 1)
exact n q j s r e = held (round binary64 false n 1) n (round_exact binary64 false n 1 q j (pow_pos 0) s r (e ∙ sym (mul-one (q * 2 ^ j))))

-- a number below 2 ^ 53, and one without a fraction
small : (n : ℕ) → n < 2 ^ 53 → to_unsigned 64 (round binary64 false n 1) ≡ min n (2 ^ 64 - 1)
small n h = exact n n 1074 h (lt_of_lt_of_le (shl_lt 53 1074 h) (pow_mono {i = 53 + 1074} {j = 2098} (lit≤ tt))) refl

large : (m i : ℕ) → m < 2 ^ 53 → m * 2 ^ i < 2 ^ 1024 → to_unsigned 64 (round binary64 false (m * 2 ^ i) 1) ≡ min (m * 2 ^ i) (2 ^ 64 - 1)
large m i h l =
    exact (m * 2 ^ i) m (i + 1074) h
    (lt_of_le_of_lt (le_of_eq (sym (shift m i 1074))) (lt_of_lt_of_le (mul-lt-mul_of_pos_right l (pow_pos 1074)) (le_of_eq (sym (pow-add 2 1024 1074)))))
    (shift m i 1074)

pub floor_whole : (x : Float) → T (fits binary64 x) → as_usize (floor_of x) ≡ as_usize x
unfolding floor_of to_unsigned
floor_whole nan F = refl
floor_whole (inf s) F = refl
floor_whole (fin true m e) F = ap (to_unsigned 64) (round_is binary64 true _ 1) ∙ negative _ _
floor_whole (fin false zero e) F = ap (λ (z : ℕ). to_unsigned 64 (round binary64 false z 1)) none ∙ small 0 (lit< tt) ∙ ap (λ (z : ℕ). min z (2 ^ 64 - 1)) (sym none)
  where
    none : 0 * up e / down e ≡ 0
    none = ap (λ (z : ℕ). z / down e) (zero-mul (up e)) ∙ zero-div (down e)
floor_whole (fin false (suc m) (pos i)) F =
    let e : suc m * 2 ^ i / 1 ≡ suc m * 2 ^ i = div-one (suc m * 2 ^ i) in
    ap (λ (z : ℕ). to_unsigned 64 (round binary64 false z 1)) e
    ∙ large (suc m) i (limits false m (pos i) F).digits (subst (λ (z : ℕ). suc m * 2 ^ i < z) (mul-one (2 ^ 1024)) (limits false m (pos i) F).range)
    ∙ ap (λ (z : ℕ). min z (2 ^ 64 - 1)) (sym e)
floor_whole (fin false (suc m) (negsuc i)) F =
    small (suc m * 1 / 2 ^ suc i) (lt_of_le_of_lt (div-le_self (suc m * 1) (2 ^ suc i)) (subst (λ (z : ℕ). z < 2 ^ 53) (sym (mul-one (suc m))) (limits false m (negsuc i) F).digits))
