-- The values of whole numbers, and what is a number and no NaN: what rounding gives, and sums and quotients of what is small enough. Assumes nothing.
use Rattle.std.proofs.Common.{◌≡◌, ℕ, zero, suc, ◌+◌, ◌-◌, ◌*◌, ◌/◌, ◌%◌, ◌^◌, ◌<◌, ◌≤◌, Bool, true, false, cond, not, ◌&&◌, ◌||◌, T, eqb, ltb, ℤ, pos, sym, refl, ap, ◌∙◌, subst, le_trans, le_of_eq, mul-le-mul_right, mul_assoc, mul_comm, mul-le-mul, mul-le-mul_left, one-mul, mul-one, mul_left_comm, arith, eqb→eq, ltb→lt}
use mathlib.Core.Bool.{beq}
use Prim.Native.Nat.{compare}
use lib.Count.{count_trailing_zeros}
use lib.Ieee.{minus, Float, nan, inf, fin, Format, binary64, up, down, odd, units, round, nearest, size}
use lib.Ieee.{low, prec, emax, sum, add, sub, mul, neg, div, of_int, lt, eq, le, is_nan, unlike}
use lib.Ieee.Back.{round_whole}
use lib.Ieee.Exact.{HasValue}
use lib.Ieee.Fits.{down_pos}
use lib.Ieee.Order.{round_mono}
use lib.Ieee.Positive.{above}
use Rattle.float.specs.Floats.{◌⊕◌, ◌⊖◌, ◌⊗◌, ◌⊘◌, f64, d64, clamp_of}

-- ---- what is above zero is a number
pub above_number : (x : Float) → T (above x) → T (not (is_nan x))
unfolding is_nan
above_number nan h = absurd h
above_number (inf s) h = tt
above_number (fin s m e) h = tt

-- ---- rounding gives a number
pub odd_number : (d : ℕ) (s : Bool) (q k l : ℕ) → T (not (is_nan (odd d s q k l)))
unfolding odd is_nan
odd_number d s zero k l = tt
odd_number d s (suc q) k l = tt

pub units_number : (f : Format) (s : Bool) (q k : ℕ) → T (not (is_nan (units f s q k)))
unfolding units
units_number f s q k = go (ltb (q * 2 ^ k) (2 ^ (low f + suc (emax f))))
  where
    go : (b : Bool) → T (not (is_nan (cond b (odd (suc (prec f)) s q k (low f)) (inf s))))
    go true = odd_number (suc (prec f)) s q k (low f)
    go false = unfold is_nan in tt

pub round_number : (f : Format) (s : Bool) (a b : ℕ) → T (not (is_nan (round f s a b)))
unfolding round
round_number f s a b =
    let n = a * 2 ^ low f in
    let k = size (n / b) - prec f in
    let u = b * 2 ^ k in
    units_number f s (nearest (n / u) (compare (n % u * 2) u)) k

sum_number : (f : Format) (s : Bool) (a : ℕ) (t : Bool) (b c : ℕ) → T (not (is_nan (sum f s a t b c)))
unfolding sum
sum_number f s a t b c = go (beq s t) (ltb a b)
  where
    go : (x y : Bool) → T (not (is_nan (cond x (round f s (a + b) c) (cond y (round f t (b - a) c) (round f (s && ltb b a) (a - b) c)))))
    go true y = round_number f s (a + b) c
    go false true = round_number f t (b - a) c
    go false false = round_number f (s && ltb b a) (a - b) c

-- ---- x is a number from 0 to C
pub data Small (C : ℕ) (x : Float) : Type 0 where
  small : (m : ℕ) (e : ℤ) → x ≡ fin false m e → m * up e ≤ C * down e → Small C x

-- `le` of two numbers that are not below zero
either : {P : Type 0} (a b : Bool) → (T a → P) → (T b → P) → T (a || (b && true)) → P
either true b f g t = f tt
either false true f g t = g tt
either false false f g t = absurd t

-- a value that rounding gives, and that is at most 2 ^ k
shape : (q k l d : ℕ) (i : ℕ) (c : ℕ) → T (le (odd d false q k l) (fin false 1 (pos i))) → Small (2 ^ i) (odd d false q k l)
unfolding odd le lt eq
shape zero k l d i c h = small 0 (pos 0) refl (omega arith)
shape (suc q) k l d i c h = let t = count_trailing_zeros d (suc q) in small (suc q / 2 ^ t) (minus (k + t) l) refl (go (suc q / 2 ^ t) (minus (k + t) l) h)
  where
    go : (m : ℕ) (e : ℤ) → T (ltb (m * up e * 1) (1 * 2 ^ i * down e) || (eqb (m * up e * 1) (1 * 2 ^ i * down e) && true)) → m * up e ≤ 2 ^ i * down e
    go m e t =
        let p : m * up e * 1 ≡ m * up e = mul-one (m * up e) in
        let r : 1 * 2 ^ i * down e ≡ 2 ^ i * down e = ap (λ z. z * down e) (one-mul (2 ^ i)) in
        subst (λ z. z ≤ 2 ^ i * down e) p (subst (λ z. m * up e * 1 ≤ z) r (either (ltb (m * up e * 1) (1 * 2 ^ i * down e))
        (eqb (m * up e * 1) (1 * 2 ^ i * down e)) (λ x. let y : m * up e * 1 < 1 * 2 ^ i * down e = ltb→lt _ _ x in
        omega arith) (λ x. le_of_eq (eqb→eq _ _ x)) t))

units_small : (q k i : ℕ) → T (le (units binary64 false q k) (fin false 1 (pos i))) → Small (2 ^ i) (units binary64 false q k)
unfolding units
units_small q k i h = go (ltb (q * 2 ^ k) (2 ^ (low binary64 + suc (emax binary64)))) h
  where
    go : (b : Bool) → T (le (cond b (odd (suc (prec binary64)) false q k (low binary64)) (inf false)) (fin false 1 (pos i)))
        → Small (2 ^ i) (cond b (odd (suc (prec binary64)) false q k (low binary64)) (inf false))
    go true h = shape q k (low binary64) (suc (prec binary64)) i 0 h
    go false h = absurd (unfold le lt eq in h)

round_small : (i a b : ℕ) → 0 < b → round binary64 false (2 ^ i) 1 ≡ fin false 1 (pos i) → a ≤ 2 ^ i * b → Small (2 ^ i) (round binary64 false a b)
unfolding round
round_small i a b B e h =
    let n = a * 2 ^ low binary64 in
    let k = size (n / b) - prec binary64 in
    let u = b * 2 ^ k in
    units_small (nearest (n / u) (compare (n % u * 2) u)) k i
    (subst (λ z. T (le (round binary64 false a b) z)) e (round_mono binary64 a b (2 ^ i) 1 B (omega arith) (le_trans (le_of_eq (mul-one a)) h)))

-- ---- whole numbers, their quotients and a half more
pub f64_value : (n : ℕ) → n ≤ 2 ^ 53 → HasValue (f64 n) false n 1
unfolding of_int
f64_value n h = round_whole binary64 false n h

power_60 : round binary64 false (2 ^ 60) 1 ≡ fin false 1 (pos 60)
unfolding round
power_60 = refl

power_61 : round binary64 false (2 ^ 61) 1 ≡ fin false 1 (pos 61)
unfolding round
power_61 = refl

pub whole_small : (n : ℕ) → n ≤ 2 ^ 60 → Small (2 ^ 60) (f64 n)
unfolding of_int
whole_small n h = round_small 60 n 1 (omega arith) power_60 (le_trans h (le_of_eq (sym (mul-one (2 ^ 60)))))

-- a whole number from 1 on is at least 1
pub data AtLeastOne (x : Float) : Type 0 where
  at_least_one : (m : ℕ) (e : ℤ) → x ≡ fin false m e → down e ≤ m * up e → AtLeastOne x

power_0 : round binary64 false 1 1 ≡ fin false 1 (pos 0)
unfolding round
power_0 = refl

pub whole_one : (n : ℕ) → 1 ≤ n → n ≤ 2 ^ 60 → AtLeastOne (f64 n)
whole_one n l h = go (whole_small n h)
  where
    one_below : T (le (fin false 1 (pos 0)) (f64 n))
    one_below = unfold of_int in subst (λ z. T (le z (round binary64 false n 1))) power_0 (round_mono binary64 1 1 n 1 (omega arith) (omega arith) (omega arith))

    bound : (m : ℕ) (e : ℤ) → T (le (fin false 1 (pos 0)) (fin false m e)) → down e ≤ m * up e
    bound m e t = unfold le lt eq in either (ltb (1 * 1 * down e) (m * up e * 1)) (eqb (1 * 1 * down e) (m * up e * 1)) (λ x. let y : 1 * 1
        * down e < m * up e * 1 = ltb→lt (1 * 1 * down e) (m * up e * 1) x in omega arith) (λ x. let y : 1 * 1 * down e
        ≡ m * up e * 1 = eqb→eq (1 * 1 * down e) (m * up e * 1) x in omega arith) t

    go : Small (2 ^ 60) (f64 n) → AtLeastOne (f64 n)
    go (small m e p q) = at_least_one m e p (bound m e (subst (λ z. T (le (fin false 1 (pos 0)) z)) p one_below))

-- a decimal up to 1
pub decimal_small : (a b : ℕ) → 0 < b → a ≤ b → Small 1 (d64 a b)
unfolding d64
decimal_small a b B h = round_small 0 a b B power_0 (le_trans h (le_of_eq (sym (one-mul b))))

-- .. times what is small
pub product_small : (x y : Float) → Small 1 x → Small (2 ^ 60) y → Small (2 ^ 60) (x ⊗ y)
product_small x y (small m e p h) (small n d q k) =
    subst (λ z. Small (2 ^ 60) (z ⊗ y)) (sym p) (subst (λ z. Small (2 ^ 60) (fin false m e ⊗ z)) (sym q) go)
  where
    bound : m * up e * (n * up d) ≤ 2 ^ 60 * (down e * down d)
    bound =
        le_trans (mul-le-mul h k)
        (le_of_eq (ap (λ z. z * (2 ^ 60 * down d)) (one-mul (down e)) ∙ mul_left_comm (down e) (2 ^ 60) (down d)))

    go : Small (2 ^ 60) (fin false m e ⊗ fin false n d)
    go = unfold mul in round_small 60 (m * up e * (n * up d)) (down e * down d) (native.Mathlib.Nat.mul-pos (down_pos e) (down_pos d)) power_60 bound

pub quotient_small : (x y : Float) → Small (2 ^ 60) x → AtLeastOne y → Small (2 ^ 60) (x ⊘ y)
quotient_small x y (small m e p h) (at_least_one n d q k) =
    subst (λ z. Small (2 ^ 60) (z ⊘ y)) (sym p) (subst (λ z. Small (2 ^ 60) (fin false m e ⊘ z)) (sym q) go)
  where
    positive : 0 < n * up d
    positive = let z : 0 < down d = down_pos d in omega arith

    some : (n : ℕ) → 0 < n * up d → eqb n 0 ≡ false
    some zero h = absurd (let z : 0 * up d ≡ 0 = native.Mathlib.Nat.zero-mul (up d) in omega arith)
    some (suc n) h = lib.Dec.eqb-suc-zero n

    ratio : m * up e * down d ≤ 2 ^ 60 * (n * up d * down e)
    ratio =
        le_trans (mul-le-mul_right (down d) h)
        (le_trans (le_of_eq (mul_assoc (2 ^ 60) (down e) (down d)))
        (mul-le-mul_left (2 ^ 60) (le_trans (le_of_eq (mul_comm (down e) (down d))) (mul-le-mul_right (down e) k))))

    rounded : Small (2 ^ 60) (round binary64 false (m * up e * down d) (n * up d * down e))
    rounded = round_small 60 (m * up e * down d) (n * up d * down e) (native.Mathlib.Nat.mul-pos positive (down_pos e)) power_60 ratio

    go : Small (2 ^ 60) (fin false m e ⊘ fin false n d)
    go = unfold div in subst (λ b. Small (2 ^ 60) (cond b (cond (eqb m 0) nan (inf (unlike false false))) (round binary64 false (m * up e *
        down d) (n * up d * down e)))) (sym (some n positive)) rounded

-- ---- sums and differences of finite numbers are numbers
pub data Finite (x : Float) : Type 0 where
  finite : (s : Bool) (m : ℕ) (e : ℤ) → x ≡ fin s m e → Finite x

pub plus_number : (x y : Float) → Finite x → Finite y → T (not (is_nan (x ⊕ y)))
plus_number x y (finite s m e p) (finite t n d q) = subst (λ z. T (not (is_nan (z ⊕ y)))) (sym p) (subst (λ z. T (not (is_nan (fin s m e ⊕ z)))) (sym q) go)
  where
    go : T (not (is_nan (fin s m e ⊕ fin t n d)))
    go = unfold add in sum_number binary64 s (m * up e * down d) t (n * up d * down e) (down e * down d)

pub minus_number : (x y : Float) → Finite x → Finite y → T (not (is_nan (x ⊖ y)))
unfolding sub
minus_number x y f (finite t n d q) = plus_number x (neg y) f (finite (not t) n d (ap neg q ∙ (unfold neg in refl)))

pub small_finite : {C : ℕ} {x : Float} → Small C x → Finite x
small_finite (small m e p h) = finite false m e p

-- .. an infinity among them on the left
pub sum_not_nan : (x y : Float) → T (not (is_nan x)) → Finite y → T (not (is_nan (x ⊕ y)))
unfolding is_nan
sum_not_nan nan y h f = absurd h
sum_not_nan (inf s) y h (finite t n d q) = subst (λ z. T (not (is_nan (inf s ⊕ z)))) (sym q) (unfold add in tt)
sum_not_nan (fin s m e) y h f = plus_number (fin s m e) y (finite s m e refl) f

-- between two finite numbers there are finite ones
pub clamp_finite : (lo hi x : Float) → Finite lo → Finite hi → T (not (is_nan x)) → Finite (clamp_of lo hi x)
unfolding clamp_of
clamp_finite lo hi nan l h n = absurd (unfold is_nan in n)
clamp_finite lo hi (inf true) (finite s m e p) h n = subst (λ z. Finite (cond (lt (inf true) z) lo (cond (lt hi (inf true)) hi (inf true)))) (sym p) (unfold lt in finite s m e p)
clamp_finite lo hi (inf false) (finite s m e p) (finite t k d q) n =
    subst (λ z. Finite (cond (lt (inf false) z) lo (cond (lt hi (inf false)) hi (inf false)))) (sym p)
    (subst (λ z. Finite (cond (lt (inf false) (fin s m e)) lo (cond (lt z (inf false)) hi (inf false)))) (sym q) (unfold lt in finite t k d q))
clamp_finite lo hi (fin s m e) l h n = go (lt (fin s m e) lo) (lt hi (fin s m e))
  where
    go : (a b : Bool) → Finite (cond a lo (cond b hi (fin s m e)))
    go true b = l
    go false true = h
    go false false = finite s m e refl

-- a small number and a half
pub half_more : (x : Float) → Small (2 ^ 60) x → Finite (x ⊕ d64 5 10)
half_more x (small m e p h) = subst (λ z. Finite (z ⊕ d64 5 10)) (sym p) (subst (λ z. Finite (fin false m e ⊕ z)) (sym half) go)
  where
    half : d64 5 10 ≡ fin false 1 (lib.IntN.negsuc 0)
    half = unfold d64 round in refl

    bound : m * up e * 2 + 1 * 1 * down e ≤ 2 ^ 61 * (down e * 2)
    bound = omega arith

    go : Finite (fin false m e ⊕ fin false 1 (lib.IntN.negsuc 0))
    go = unfold add sum in small_finite (round_small 61 (m * up e * 2 + 1 *
        1 * down e) (down e * 2) (native.Mathlib.Nat.mul-pos (down_pos e) (omega arith)) power_61 bound)
