-- Values of a format that compare as equal are the same, but for the two zeros; and a sum with a number from +0 on is never −0. Assumes nothing.
use Rattle.std.proofs.Common.{◌≡◌, ℕ, zero, suc, ◌+◌, ◌-◌, ◌*◌, ◌/◌, ◌%◌, ◌^◌, ◌<◌, ◌≤◌, Bool, true, false, cond, not, ◌&&◌, T, eqb, ltb, leb, ◌⊎◌, ℤ, pos, negsuc, sym, refl, ap, ◌∙◌, subst, inl, inr, ⊎_elim, le_trans, le_of_eq, mul-le-mul_right, mul_assoc, mul_comm, mul-le-mul, lt_of_mul-lt-mul_right, mul-pos, one-mul, mul_right_comm, arith, eqb→eq, ltb→lt, leb→le, pow_pos, pow-add}
use lib.Ieee.{Float, nan, inf, fin, Format, binary64, prec, emax, low, top, hid, size, up, down, odd, units, round, sum, add, neg, eq, fits, to_bits, of_bits}
use lib.Ieee.Bits.{of_bits-to_bits}
use lib.Ieee.Fits.{and_l, and_r, up_pos, down_pos, round_is}
use lib.Ieee.Nearest.{div_same}
use lib.Ieee.Order.{round_mono}
use lib.Ieee.Positive.{above, above_of_le}
use Rattle.base.proofs.Arith.{le_or_lt}
use Rattle.float.specs.Floats.{◌⊕◌}
use Rattle.std.proofs.num.Values.{neg-round}

-- −0
unfoldable pub is_minus_zero : Float → Bool
is_minus_zero nan = false
is_minus_zero (inf s) = false
is_minus_zero (fin s zero e) = s
is_minus_zero (fin s (suc m) e) = false

-- ---- equal, and so the same

-- what a pattern is made of: the sign, and the magnitude in units of the smallest value
bits_of : Format → Bool → ℕ → ℕ
bits_of f s n = let k = size n - prec f in cond s (top f) 0 + k * hid f + n / 2 ^ k

same_value : (f : Format) (s : Bool) (m n : ℕ) (e d : ℤ) → m * up e * down d ≡ n * up d * down e → to_bits f (fin s m e) ≡ to_bits f (fin s n d)
unfolding to_bits bits_of
same_value f s m n e d h =
    ap (bits_of f s)
    (div_same (m * up e * 2 ^ low f) (down e) (n * up d * 2 ^ low f) (down d) (down_pos e) (down_pos d)
    (mul_right_comm (m * up e) (2 ^ low f) (down d) ∙ ap (λ (z : ℕ). z * 2 ^ low f) h ∙ mul_right_comm (n * up d) (down e) (2 ^ low f)))

same_fin : (f : Format) (s : Bool) (m n : ℕ) (e d : ℤ) → T (fits f (fin s m e)) → T (fits f (fin s n d)) → m * up e * down d ≡ n * up d * down e → fin s m e ≡ fin s n d
same_fin f s m n e d x y h = sym (of_bits-to_bits f (fin s m e) x) ∙ ap (of_bits f) (same_value f s m n e d h) ∙ of_bits-to_bits f (fin s n d) y

-- a zero that is not −0 has no sign
no_zero : (m : ℕ) (e d : ℤ) → T (not (is_minus_zero (fin true m e))) → m * up e * down d ≡ 0 → ⊥
unfolding is_minus_zero
no_zero zero e d h z = h
no_zero (suc m) e d h z = let p : 0 < suc m * up e * down d = mul-pos (mul-pos (omega arith) (up_pos e)) (down_pos d) in omega arith

pub eq_same : (f : Format) (x y : Float) → T (fits f x) → T (fits f y) → T (not (is_minus_zero x)) → T (not (is_minus_zero y)) → T (eq x y) → x ≡ y
unfolding eq
eq_same f nan y a b p q h = absurd h
eq_same f (inf s) nan a b p q h = absurd h
eq_same f (inf true) (inf true) a b p q h = refl
eq_same f (inf true) (inf false) a b p q h = absurd h
eq_same f (inf false) (inf true) a b p q h = absurd h
eq_same f (inf false) (inf false) a b p q h = refl
eq_same f (inf s) (fin t n d) a b p q h = absurd h
eq_same f (fin s m e) nan a b p q h = absurd h
eq_same f (fin s m e) (inf t) a b p q h = absurd h
eq_same f (fin true m e) (fin true n d) a b p q h = same_fin f true m n e d a b (eqb→eq _ _ (and_l (eqb (m * up e * down d) (n * up d * down e)) true h))
eq_same f (fin false m e) (fin false n d) a b p q h = same_fin f false m n e d a b (eqb→eq _ _ (and_l (eqb (m * up e * down d) (n * up d * down e)) true h))
eq_same f (fin true m e) (fin false n d) a b p q h =
    absurd (no_zero m e d p (eqb→eq _ _ (and_r (eqb (m * up e * down d) (n * up d * down e)) (eqb (m * up e * down d) 0) h)))
eq_same f (fin false m e) (fin true n d) a b p q h =
    let x : m * up e * down d ≡ n * up d * down e = eqb→eq _ _ (and_l (eqb (m * up e * down d) (n * up d * down e)) (eqb (m * up e * down d) 0) h) in
    let z : m * up e * down d ≡ 0 = eqb→eq _ _ (and_r (eqb (m * up e * down d) (n * up d * down e)) (eqb (m * up e * down d) 0) h) in
    absurd (no_zero n d e q (sym x ∙ z))

-- ---- a sum with a number from +0 on

-- two values have denominators that are powers of two: one divides the other
divides : (e d : ℤ) → ((r : ℕ) × (down d ≡ down e * r)) ⊎ ((r : ℕ) × (down e ≡ down d * r))
divides (pos k) d = inl (down d, sym (one-mul (down d)))
divides (negsuc k) (pos l) = inr (2 ^ suc k, sym (one-mul (2 ^ suc k)))
divides (negsuc k) (negsuc l) = ⊎_elim
    (λ h. inl (2 ^ (l - k), ap (λ (n : ℕ). 2 ^ n) (let z : suc l ≡ suc k + (l - k) = omega arith in z) ∙ pow-add 2 (suc k) (l - k)))
    (λ h. inr (2 ^ (k - l), ap (λ (n : ℕ). 2 ^ n) (let z : suc k ≡ suc l + (k - l) = omega arith in z) ∙ pow-add 2 (suc l) (k - l)))
    (le_or_lt k l)

-- where p / E is more than q / D, it is so by 1 / L at least: E divides D, which is at most L
unit_apart : (p q E D L r : ℕ) → D ≡ E * r → D ≤ L → q * E < p * D → E * D ≤ (p * D - q * E) * L
unit_apart p q E D L r e h l =
    let a : p * D ≡ p * r * E = ap (λ (z : ℕ). p * z) (e ∙ mul_comm E r) ∙ sym (mul_assoc p r E) in
    let b : q < p * r = lt_of_mul-lt-mul_right E (subst (λ (z : ℕ). q * E < z) a l) in
    let c : (q + 1) * E ≤ p * r * E = mul-le-mul_right E (omega arith) in
    let d : (q + 1) * E ≡ q * E + E = native.Mathlib.Nat.add-mul q 1 E ∙ ap (λ (z : ℕ). q * E + z) (one-mul E) in
    mul-le-mul (omega arith) h

-- .. or D divides E, which is at most L
unit_apart' : (p q E D L r : ℕ) → E ≡ D * r → E ≤ L → q * E < p * D → E * D ≤ (p * D - q * E) * L
unit_apart' p q E D L r e h l =
    let a : q * E ≡ q * r * D = ap (λ (z : ℕ). q * z) (e ∙ mul_comm D r) ∙ sym (mul_assoc q r D) in
    let b : q * r < p = lt_of_mul-lt-mul_right D (subst (λ (z : ℕ). z < p * D) a l) in
    let c : (q * r + 1) * D ≤ p * D = mul-le-mul_right D (omega arith) in
    let d : (q * r + 1) * D ≡ q * r * D + D = native.Mathlib.Nat.add-mul (q * r) 1 D ∙ ap (λ (z : ℕ). q * r * D + z) (one-mul D) in
    le_trans (le_of_eq (mul_comm E D)) (mul-le-mul (omega arith) h)

at_most_one : (u d L : ℕ) → u * d ≡ 1 → 0 < u → 0 < L → d ≤ L
at_most_one u d L e h l =
    let b : 1 * d ≤ u * d = mul-le-mul_right d (omega arith) in
    omega (arith, one-mul d)

-- no value of the format is finer than its smallest
down_most : (s : Bool) (m : ℕ) (e : ℤ) → T (fits binary64 (fin s m e)) → down e ≤ 2 ^ low binary64
unfolding fits
down_most s zero e h = at_most_one (up e) (down e) (2 ^ low binary64) (eqb→eq (up e * down e) 1 h) (up_pos e) (pow_pos (low binary64))
down_most s (suc m) e h =
    let A = eqb (suc m % 2) 1 in
    let B = ltb (suc m) (2 ^ prec binary64) in
    let C = leb (down e) (2 ^ low binary64) in
    let D = ltb (suc m * up e) (2 ^ suc (emax binary64) * down e) in
    leb→le (down e) (2 ^ low binary64) (and_r (A && B) C (and_l (A && B && C) D h))

-- rounding keeps the sign: what is rounded as positive is not −0
fin_plus : (m : ℕ) (e : ℤ) → T (not (is_minus_zero (fin false m e)))
unfolding is_minus_zero
fin_plus zero e = tt
fin_plus (suc m) e = tt

odd_plus : (d q k l : ℕ) → T (not (is_minus_zero (odd d false q k l)))
unfolding odd
odd_plus d zero k l = fin_plus 0 (pos 0)
odd_plus d (suc q) k l = fin_plus _ _

units_plus : (f : Format) (q k : ℕ) → T (not (is_minus_zero (units f false q k)))
unfolding units
units_plus f q k = go (ltb (q * 2 ^ k) (2 ^ (low f + suc (emax f))))
  where
    go : (b : Bool) → T (not (is_minus_zero (cond b (odd (suc (prec f)) false q k (low f)) (inf false))))
    go true = odd_plus (suc (prec f)) q k (low f)
    go false = unfold is_minus_zero in tt

round_plus : (f : Format) (a b : ℕ) → T (not (is_minus_zero (round f false a b)))
round_plus f a b = subst (λ (x : Float). T (not (is_minus_zero x))) (sym (round_is f false a b)) (units_plus f _ _)

-- .. and what is negative, and a unit or more, is not either
minus_above : (x : Float) → T (above x) → T (not (is_minus_zero (neg x)))
unfolding is_minus_zero neg
minus_above nan h = absurd h
minus_above (inf s) h = tt
minus_above (fin true m e) h = absurd h
minus_above (fin false zero e) h = absurd h
minus_above (fin false (suc m) e) h = tt

smallest : round binary64 false 1 (2 ^ low binary64) ≡ fin false 1 (negsuc 1073)
unfolding round
smallest = refl

round_minus : (a b : ℕ) → 0 < b → b ≤ a * 2 ^ low binary64 → T (not (is_minus_zero (round binary64 true a b)))
round_minus a b B h =
    subst (λ (x : Float). T (not (is_minus_zero x))) (neg-round binary64 a b)
    (minus_above (round binary64 false a b)
    (above_of_le (fin false 1 (negsuc 1073)) (round binary64 false a b) tt
    (subst (λ (x : Float). T (lib.Ieee.le x (round binary64 false a b))) smallest
    (round_mono binary64 1 (2 ^ low binary64) a b (pow_pos (low binary64)) B (le_trans (le_of_eq (one-mul b)) h)))))

-- x + y, where y is from +0 on
pub sum_not_minus_zero : (x : Float) (n : ℕ) (d : ℤ) → T (fits binary64 x) → T (fits binary64 (fin false n d)) → T (not (is_minus_zero (x ⊕ fin false n d)))
unfolding add
sum_not_minus_zero nan n d a b = unfold is_minus_zero in tt
sum_not_minus_zero (inf s) n d a b = unfold is_minus_zero in tt
sum_not_minus_zero (fin false m e) n d a b = unfold sum in round_plus binary64 (m * up e * down d + n * up d * down e) (down e * down d)
sum_not_minus_zero (fin true m e) n d a b = unfold sum in go (ltb (m * up e * down d) (n * up d * down e)) (ltb (n * up d * down e) (m * up e * down d)) refl
  where
    p : ℕ
    p = m * up e

    q : ℕ
    q = n * up d

    apart : q * down e < p * down d → down e * down d ≤ (p * down d - q * down e) * 2 ^ low binary64
    apart l = ⊎_elim
        (λ r. unit_apart p q (down e) (down d) (2 ^ low binary64) r.0 r.1 (down_most false n d b) l)
        (λ r. unit_apart' p q (down e) (down d) (2 ^ low binary64) r.0 r.1 (down_most true m e a) l)
        (divides e d)

    go : (x y : Bool) → ltb (q * down e) (p * down d) ≡ y
        → T (not (is_minus_zero (cond x (round binary64 false (q * down e - p * down d) (down e * down d)) (round binary64 (true && y) (p * down d - q * down e) (down e * down d)))))
    go true y h = round_plus binary64 (q * down e - p * down d) (down e * down d)
    go false false h = round_plus binary64 (p * down d - q * down e) (down e * down d)
    go false true h = round_minus (p * down d - q * down e) (down e * down d) (mul-pos (down_pos e) (down_pos d)) (apart (ltb→lt _ _ (subst T (sym h) tt)))
