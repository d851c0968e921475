-- Coordinates held to a side, and their whole parts. Assumes nothing.
use borrow.Author.Tests.{ltb-false}
use mathlib.Core.Path.{◌≡◌, refl, sym, ap, ◌∙◌, subst}
use mathlib.Core.Bool.{Bool, true, false, cond, true≢false}
use Prim.Native.Nat.{ℕ, zero, suc, ◌+◌, ◌-◌, ◌*◌, ◌/◌, ◌^◌, ◌≤◌, ◌<◌}
use native.Mathlib.Nat.{le_trans, le_of_eq, mul-one, one-mul, mul_comm, mul_right_comm, le_of_mul-le-mul_right, div-le_of_le-mul, not-le_of_lt, add-mul}
use native.Mathlib.Omega.{arith}
use lib.Dec.{T, ltb, ltb→lt, lit<}
use lib.IntN.{pos}
use lib.Ieee.{low, emax, prec, Float, nan, inf, fin, Format, binary64, up, down, round, sum, sub, of_int, lt, to_unsigned, odd, units}
use lib.Ieee.Exact.{HasValue}
use lib.Ieee.Back.{unsigned_back}
use lib.Ieee.Fits.{down_pos, round_is}
use lib.Ieee.Scale.{round_same}
use Rattle.base.proofs.Floats.{held64}
use Rattle.float.specs.Floats.{◌⊖◌, f64, d64, floor_of, as_usize, clamp_of}
use Rattle.float.proofs.Numbers.{f64_value}
use Rattle.sampling.specs.Reading.{held, neighbours_of}

-- ---- n - 1 is exact

larger : (f : Format) (a b c : ℕ) → b ≤ a → sum f false a true b c ≡ round f false (a - b) c
unfolding sum
larger f a b c h = go (ltb a b) (ltb→lt a b)
  where
    go : (t : Bool) → (T t → a < b) → cond t (round f true (b - a) c) (round f false (a - b) c) ≡ round f false (a - b) c
    go true k = absurd (not-le_of_lt (k tt) h)
    go false k = refl

less_one : (x : Float) (k : ℕ) → HasValue x false (k + 1) 1 → sub binary64 x (fin false 1 (pos 0)) ≡ round binary64 false k 1
unfolding sub
less_one nan k v = absurd v
less_one (inf s) k v = absurd v
less_one (fin true m e) k v = absurd (true≢false v.0)
less_one (fin false m e) k v =
    let d = down e in
    let p : (k + 1) * d ≡ k * d + 1 * d = add-mul k 1 d in
    let q : m * up e * 1 ≡ k * d + d = v.1 ∙ p ∙ ap (λ i. k * d + i) (one-mul d) in
    let b : 1 * 1 * d ≡ d = omega arith in
    let z : d * 1 ≡ d = mul-one d in
    larger binary64 (m * up e * 1) (1 * 1 * d) (d * 1) (omega arith)
    ∙ round_same binary64 false (m * up e * 1 - 1 * 1 * d) (d * 1) k 1 (omega (arith, down_pos e)) (lit< tt) (exact (m * up e * 1) d k q)
  where
    exact : (a d k : ℕ) → a ≡ k * d + d → (a - 1 * 1 * d) * 1 ≡ k * (d * 1)
    exact a d k q = let z : d * 1 ≡ d = mul-one d in omega (arith, ap (λ i. k * i) z)

one_is : f64 1 ≡ fin false 1 (pos 0)
unfolding of_int
one_is = refl

as_round : (n : ℕ) → f64 n ≡ round binary64 false n 1
unfolding of_int
as_round n = refl

pub last_place : (k : ℕ) → k + 1 ≤ 2 ^ 53 → f64 (k + 1) ⊖ f64 1 ≡ f64 k
last_place k h = ap (λ x. f64 (k + 1) ⊖ x) one_is ∙ less_one (f64 (k + 1)) k (f64_value (k + 1) h) ∙ sym (as_round k)

-- ---- the whole part of what is not above n

cut : (a d b t n : ℕ) → 0 < d → 0 < t → b ≡ n * t → a * t ≤ b * d → a / d ≤ n
cut a d b t n D S q h =
    let e : b * d ≡ n * d * t = ap (λ i. i * d) q ∙ mul_right_comm n t d in
    let l : a ≤ n * d = le_of_mul-le-mul_right (le_trans h (le_of_eq e)) S in
    div-le_of_le-mul d (le_trans l (le_of_eq (mul_comm n d)))

not_above : (y x : Float) (n : ℕ) → HasValue y false n 1 → lt y x ≡ false → as_usize x ≤ n
unfolding lt to_unsigned
not_above y nan n v h = omega arith
not_above y (inf true) n v h = omega arith
not_above nan (inf false) n v h = absurd v
not_above (inf s) (inf false) n v h = absurd v
not_above (fin s m e) (inf false) n v h = absurd (true≢false h)
not_above y (fin true m e) n v h = omega arith
not_above nan (fin false m e) n v h = absurd v
not_above (inf s) (fin false m e) n v h = absurd v
not_above (fin true k d) (fin false m e) n v h = absurd (true≢false v.0)
not_above (fin false k d) (fin false m e) n v h =
    let a = m * up e in
    let b = k * up d in
    let l : a * down d ≤ b * down e = ltb-false (b * down e) (a * down d) h in
    let q : b ≡ n * down d = sym (mul-one b) ∙ v.1 in
    omega (arith, cut a (down e) b (down d) n (down_pos e) (down_pos d) q l)

back : (k : ℕ) → k ≤ 2 ^ 53 → as_usize (f64 k) ≡ k
back k b = (unsigned_back binary64 64 k (held64 k b) (omega arith)).1

pub held_le : (n : ℕ) (x : Float) → n ≤ 2 ^ 53 → as_usize (clamp_of (f64 0) (f64 n) x) ≤ n
unfolding clamp_of
held_le n x h = go (lt x (f64 0)) (lt (f64 n) x) refl
  where
    go : (s t : Bool) → lt (f64 n) x ≡ t → as_usize (cond s (f64 0) (cond t (f64 n) x)) ≤ n
    go true t e = omega (arith, back 0 (omega arith))
    go false true e = omega (arith, back n h)
    go false false e = not_above (f64 n) x n (f64_value n h) e

-- ---- a floor's whole part is the number's own

negative_odd : (w d q k l : ℕ) → to_unsigned w (odd d true q k l) ≡ 0
unfolding odd to_unsigned
negative_odd w d zero k l = refl
negative_odd w d (suc q) k l = refl

negative_units : (f : Format) (w q k : ℕ) → to_unsigned w (units f true q k) ≡ 0
unfolding units
negative_units f w q k = go (ltb (q * 2 ^ k) (2 ^ (low f + suc (emax f))))
  where
    go : (b : Bool) → to_unsigned w (cond b (odd (suc (prec f)) true q k (low f)) (inf true)) ≡ 0
    go true = negative_odd w (suc (prec f)) q k (low f)
    go false = unfold to_unsigned in refl

negative_round : (f : Format) (w a b : ℕ) → to_unsigned w (round f true a b) ≡ 0
negative_round f w a b = ap (to_unsigned w) (round_is f true a b) ∙ negative_units f w _ _

pub floor_whole : (x : Float) → as_usize x ≤ 2 ^ 53 → as_usize (floor_of x) ≡ as_usize x
unfolding floor_of to_unsigned
floor_whole nan h = refl
floor_whole (inf s) h = refl
floor_whole (fin true m e) h = negative_round binary64 64 _ 1
floor_whole (fin false m e) h =
    let q = m * up e / down e in
    let l : q ≤ 2 ^ 53 = omega arith in
    ap as_usize (sym (as_round q)) ∙ back q l ∙ omega arith

-- ---- a place along a side is in it

module _ (n : ℕ) (t : Float) (low : 1 ≤ n) (high : n ≤ 4096) where
  end : f64 n ⊖ f64 1 ≡ f64 (n - 1)
  end =
      let e : n - 1 + 1 ≡ n = omega arith in
      ap (λ i. f64 i ⊖ f64 1) (sym e) ∙ last_place (n - 1) (omega arith)

  held_in : as_usize (held n t) ≤ n - 1
  held_in = subst (λ y. as_usize (clamp_of (f64 0) y (t ⊖ d64 5 10)) ≤ n - 1) (sym end) (held_le (n - 1) _ (omega arith))

  pub first_is : as_usize (floor_of (held n t)) ≡ as_usize (held n t)
  first_is = floor_whole (held n t) (omega (arith, held_in))

  pub whole_in : as_usize (held n t) < n
  whole_in = omega (arith, held_in)

  pub first_in : (neighbours_of n t).first < n
  unfolding neighbours_of
  first_in = omega (arith, first_is, held_in)

  pub next_in : (neighbours_of n t).next < n
  unfolding neighbours_of
  next_in = omega (arith, first_is, held_in)
