-- The cases of `sqrt`: an x above zero by its pattern b, and the others. Assumes nothing.
use Rattle.std.proofs.Common.{◌≡◌, ℕ, zero, suc, ◌+◌, ◌-◌, ◌*◌, ◌/◌, ◌%◌, ◌^◌, ◌<◌, ◌≤◌, Bool, true, false, T, eqb, leb, ℤ, sym, refl, ap, ◌∙◌, subst, inl, inr, true≢false, le_trans, le_of_eq, lt_of_lt_of_le, lt_of_le_of_lt, mul-le-mul_right, mod-eq_of_lt, mul_assoc, mul-pos, mul_right_comm, arith, lit≤, eqb→eq, ltb→lt, lt→ltb, pow_pos, pow-add, shl_lt, leb-false}
use lib.Count.{count_leading_zeros, leading_top}
use lib.Ieee.{Float, nan, inf, fin, binary64, up, down, units, fits, of_bits, to_bits, lt, eq}
use lib.Ieee.Fits.{up_pos, and_l, and_i, eq→eqb}
use lib.Ieee.Bits.{to_bits-lt}
use lib.Ieee.Exact.{HasValue}
use lib.Ieee.Positive.{positive, above, first_pos, value_pos}
use Rattle.float.specs.Root.{nearest_root, sqrt_of, NearestRoot}
use Rattle.float.proofs.Numbers.{above_number}
use Rattle.float.proofs.Patterns.{shift, pow_lt_back, Value, read_own}
use Rattle.float.proofs.root.Scaled.{sqrt_at, nearest_at}

-- ---- above zero
pub over_zero : (x : Float) → lt (of_bits binary64 0) x ≡ true → T (above x)
unfolding lt of_bits
over_zero nan h = absurd (true≢false (sym h))
over_zero (inf true) h = absurd (true≢false (sym h))
over_zero (inf false) h = tt
over_zero (fin true m e) h = absurd (true≢false (sym h))
over_zero (fin false m e) h = lt→ltb 0 m (first_pos m (up e) (go (m * up e) (down e) (ltb→lt (0 * down e) (m * up e * 1) (subst T (sym h) tt))))
  where
    go : (n d : ℕ) → 0 * d < n * 1 → 0 < n
    go n d h = omega arith

-- a value with a fraction is finite, and its sign is clear
finite : (x : Float) (s : Bool) (a c : ℕ) → T (above x) → HasValue x s a c → T (positive x) × (s ≡ false)
finite nan s a c p h = absurd h
finite (inf t) s a c p h = absurd h
finite (fin true m e) s a c p h = absurd p
finite (fin false m e) s a c p h = (p, sym h.0)

scaled : (x : Float) (s : Bool) (a c w : ℕ) → HasValue x s a c → HasValue x s (a * w) (c * w)
scaled nan s a c w h = h
scaled (inf t) s a c w h = h
scaled (fin t m e) s a c w h = (h.0, sym (mul_assoc (m * up e) c w) ∙ ap (λ (z : ℕ). z * w) h.1 ∙ mul_right_comm a (down e) w)

-- the root of d * 2 ^ (g + 50) units is that of x
pub record Rooted (d g : ℕ) (x : Float) : Type 0 where
  pub value : sqrt_of x ≡ units binary64 false (nearest_root (d * 2 ^ (g % 2) * 2 ^ 52)) (g / 2 - 1)
  pub nearest : NearestRoot x (units binary64 false (nearest_root (d * 2 ^ (g % 2) * 2 ^ 52)) (g / 2 - 1))

rooted : (d g : ℕ) → 2 ^ 52 ≤ d → d < 2 ^ 53 → 900 ≤ g → g < 3072 → (x : Float) → T (positive x) → HasValue x false (d * 2 ^ (g + 50)) (2 ^ 2148) → Rooted d g x
rooted d g lo hi g-lo g-hi x p h = record { value = sqrt_at d g lo hi g-lo g-hi x p h; nearest = nearest_at d g lo hi g-lo g-hi x h }

module _ (x : Float) (F : T (fits binary64 x)) (A : T (above x)) where
  abbrev b : ℕ
  b = to_bits binary64 x

  B : b < 2 ^ 64
  B = to_bits-lt binary64 x F

  value : Value (leb (2 ^ 63) b) (b % 2 ^ 63 / 2 ^ 52) (b % 2 ^ 52) x
  value = read_own x F (above_number x A)

  clear : (a c : ℕ) → HasValue x (leb (2 ^ 63) b) a c → HasValue x false a c
  clear a c h = subst (λ (s : Bool). HasValue x s a c) (finite x (leb (2 ^ 63) b) a c A h).1 h

  -- ---- subnormal: the digits are moved up to a leading one at 52
  sub_value : b < 2 ^ 52 → HasValue x false (b * 1) (2 ^ 1074)
  sub_value h =
      elim value [
        | inl v ↦ subst (λ (z : ℕ). HasValue x false (z * 1) (2 ^ 1074)) (mod-eq_of_lt h) (clear (b % 2 ^ 52 * 1) (2 ^ 1074) v.1)
        | inr (inl v) ↦ absurd (none b v.0 h v.1)
        | inr (inr v) ↦ absurd (none b 2046 h v.0)
      ]
    where
      none : (y j : ℕ) → y < 2 ^ 52 → y % 2 ^ 63 / 2 ^ 52 ≡ suc j → ⊥
      none y j h e = omega arith

  pub record Moved : Type 0 where
    pub j : ℕ
    pub zeros : count_leading_zeros 64 b + suc j ≡ 64
    pub few : j < 52
    pub from : 2 ^ 52 ≤ b * 2 ^ (count_leading_zeros 64 b - 11)
    pub to : b * 2 ^ (count_leading_zeros 64 b - 11) < 2 ^ 53

  pub moved : b < 2 ^ 52 → Moved
  moved h =
      let v = sub_value h in
      let p : 0 < b * 1 = value_pos x (b * 1) (2 ^ 1074) (finite x false (b * 1) (2 ^ 1074) A v).0 (pow_pos 1074) v in
      let t = leading_top 64 b (go b p) B in
      let f : t.0 < 52 = pow_lt_back t.0 52 (lt_of_le_of_lt t.2 h) in
      let z = count_leading_zeros 64 b - 11 in
      record {
        j = t.0;
        zeros = t.1;
        few = f;
        from = le_trans (le_of_eq (ap (λ (k : ℕ). 2 ^ k) (by (count_leading_zeros 64 b) t.0 t.1 f) ∙ pow-add 2 t.0 z)) (mul-le-mul_right (2 ^ z) t.2);
        to = lt_of_lt_of_le (shl_lt (suc t.0) z t.3) (le_of_eq (ap (λ (k : ℕ). 2 ^ k) (up_by (count_leading_zeros 64 b) t.0 t.1 f)));
      }
    where
      go : (y : ℕ) → 0 < y * 1 → 0 < y
      go y h = omega arith

      by : (l j : ℕ) → l + suc j ≡ 64 → j < 52 → 52 ≡ j + (l - 11)
      by l j h f = omega arith

      up_by : (l j : ℕ) → l + suc j ≡ 64 → j < 52 → suc j + (l - 11) ≡ 53
      up_by l j h f = omega arith

  pub shl_is : b < 2 ^ 52 → b * 2 ^ (count_leading_zeros 64 b - 11) % 2 ^ 64 ≡ b * 2 ^ (count_leading_zeros 64 b - 11)
  shl_is h = mod-eq_of_lt (lt_of_lt_of_le (moved h).to (lit≤ tt))

  pub subnormal : b < 2 ^ 52 → Rooted (b * 2 ^ (count_leading_zeros 64 b - 11)) (1024 - (count_leading_zeros 64 b - 11)) x
  subnormal h =
      let m = moved h in
      let z = count_leading_zeros 64 b - 11 in
      let g = 1024 - z in
      let v = sub_value h in
      rooted (b * 2 ^ z) g m.from m.to (lo (count_leading_zeros 64 b) m.j m.zeros) (hi (count_leading_zeros 64 b)) x (finite x false (b * 1) (2 ^ 1074) A v).0
      (subst (λ (n : ℕ). HasValue x false n (2 ^ 2148)) (sym (shift b z (g + 50) ∙ ap (λ (k : ℕ). b * 2 ^ k) (sum (count_leading_zeros 64 b) m.j
      m.zeros) ∙ ap (λ (k : ℕ). k * 2 ^ 1074) (one b))) (scaled x false (b * 1) (2 ^ 1074) (2 ^ 1074) v))
    where
      one : (y : ℕ) → y ≡ y * 1
      one y = omega arith

      sum : (l j : ℕ) → l + suc j ≡ 64 → l - 11 + (1024 - (l - 11) + 50) ≡ 1074
      sum l j h = omega arith

      lo : (l j : ℕ) → l + suc j ≡ 64 → 900 ≤ 1024 - (l - 11)
      lo l j h = omega arith

      hi : (l : ℕ) → 1024 - (l - 11) < 3072
      hi l = omega arith

  -- ---- normal
  pub normal : 2 ^ 52 ≤ b → b < 2047 * 2 ^ 52 → Rooted (2 ^ 52 + b % 2 ^ 52) (b / 2 ^ 52 + 1023) x
  normal l h =
      elim value [
        | inl v ↦ absurd (none b l h v.0)
        | inr (inl v) ↦ go v.0 v.1 (clear _ _ v.3)
        | inr (inr v) ↦ absurd (late b h v.0)
      ]
    where
      none : (y : ℕ) → 2 ^ 52 ≤ y → y < 2047 * 2 ^ 52 → y % 2 ^ 63 / 2 ^ 52 ≡ 0 → ⊥
      none y h l e = omega arith

      late : (y : ℕ) → y < 2047 * 2 ^ 52 → y % 2 ^ 63 / 2 ^ 52 ≡ 2047 → ⊥
      late y h e = omega arith

      whole : (y j : ℕ) → y < 2047 * 2 ^ 52 → y % 2 ^ 63 / 2 ^ 52 ≡ suc j → j + 1074 ≡ y / 2 ^ 52 + 1023 + 50
      whole y j h e = omega arith

      digit_hi : (y : ℕ) → 2 ^ 52 + y % 2 ^ 52 < 2 ^ 53
      digit_hi y = omega arith

      digit_lo : (y : ℕ) → 2 ^ 52 ≤ 2 ^ 52 + y % 2 ^ 52
      digit_lo y = omega arith

      lo : (y : ℕ) → 900 ≤ y / 2 ^ 52 + 1023
      lo y = omega arith

      hi : (y : ℕ) → y < 2047 * 2 ^ 52 → y / 2 ^ 52 + 1023 < 3072
      hi y h = omega arith

      go : (j : ℕ) → b % 2 ^ 63 / 2 ^ 52 ≡ suc j → HasValue x false ((2 ^ 52 + b % 2 ^ 52) * 2 ^ j) (2 ^ 1074) → Rooted (2 ^ 52 + b % 2 ^ 52) (b / 2 ^ 52 + 1023) x
      go j e v =
          let d = 2 ^ 52 + b % 2 ^ 52 in
          rooted d (b / 2 ^ 52 + 1023) (digit_lo b) (digit_hi b) (lo b) (hi b h) x (finite x false (d * 2 ^ j) (2 ^ 1074) A v).0
          (subst (λ (n : ℕ). HasValue x false n (2 ^ 2148)) (shift d j 1074 ∙ ap (λ (k : ℕ). d * 2 ^ k) (whole b j h e)) (scaled x false (d * 2 ^ j) (2 ^ 1074) (2 ^ 1074) v))

  -- ---- an infinity
  pub infinite : 2047 * 2 ^ 52 ≤ b → x ≡ inf false
  infinite h =
      elim value [
        | inl v ↦ absurd (none b h (leb-false (2 ^ 63) b (finite x (leb (2 ^ 63) b) _ _ A v.1).1) v.0)
        | inr (inl v) ↦ absurd (v.2 (last b v.0 h (leb-false (2 ^ 63) b (finite x (leb (2 ^ 63) b) _ _ A v.3).1) v.1))
        | inr (inr v) ↦ v.1 ∙ go (leb (2 ^ 63) b) (subst (λ (y : Float). T (above y)) v.1 A)
      ]
    where
      none : (y : ℕ) → 2047 * 2 ^ 52 ≤ y → y < 2 ^ 63 → y % 2 ^ 63 / 2 ^ 52 ≡ 0 → ⊥
      none y h l e = omega arith

      last : (y j : ℕ) → 2047 * 2 ^ 52 ≤ y → y < 2 ^ 63 → y % 2 ^ 63 / 2 ^ 52 ≡ suc j → j ≡ 2046
      last y j h l e = omega arith

      go : (s : Bool) → T (above (inf s)) → inf s ≡ inf false
      go true h = absurd h
      go false h = refl

pub inf_root : (x : Float) → x ≡ inf false → x ≡ sqrt_of x
unfolding sqrt_of
inf_root x e = subst (λ (y : Float). y ≡ sqrt_of y) (sym e) refl

pub inf_bound : (x r : Float) → x ≡ inf false → T (positive x) → NearestRoot x r
inf_bound x r e p = absurd (subst (λ (y : Float). T (positive y)) e p)

-- ---- zero, and the rest
size_pos : (m : ℕ) (e : ℤ) → suc m * up e * 1 ≡ 0 * down e → ⊥
size_pos m e h = go (suc m * up e) (down e) (mul-pos {m = suc m} (lit m) (up_pos e)) h
  where
    lit : (m : ℕ) → 0 < suc m
    lit m = omega arith

    go : (n d : ℕ) → 0 < n → n * 1 ≡ 0 * d → ⊥
    go n d p h = omega arith

pub at_zero : (x : Float) → eq x (of_bits binary64 0) ≡ true → x ≡ sqrt_of x
unfolding eq of_bits sqrt_of
at_zero nan h = absurd (true≢false (sym h))
at_zero (inf s) h = absurd (true≢false (sym h))
at_zero (fin s zero e) h = refl
at_zero (fin s (suc m) e) h = absurd (size_pos m e (eqb→eq (suc m * up e * 1) (0 * down e) (and_l (eqb (suc m * up e * 1) (0 * down e)) _ (subst T (sym h) tt))))

nil : (u d : ℕ) → 0 * u * 1 ≡ 0 * d
nil u d = omega arith

nought : (u : ℕ) → 0 * u * 1 ≡ 0
nought u = omega arith

lit : (m : ℕ) → 0 < suc m
lit m = omega arith

more : (n d : ℕ) → 0 < n → 0 * d < n * 1
more n d h = omega arith

pub below_zero : (x : Float) → lt (of_bits binary64 0) x ≡ false → eq x (of_bits binary64 0) ≡ false → nan ≡ sqrt_of x
unfolding lt eq of_bits sqrt_of
below_zero nan h k = refl
below_zero (inf true) h k = refl
below_zero (inf false) h k = absurd (true≢false h)
below_zero (fin true (suc m) e) h k = refl
below_zero (fin true zero e) h k = absurd (subst T k (and_i (eqb (0 * up e * 1) (0 * down e)) (eqb (0 * up e * 1) 0) (eq→eqb (nil (up e) (down e))) (eq→eqb (nought (up e)))))
below_zero (fin false zero e) h k = absurd (subst T k (and_i (eqb (0 * up e * 1) (0 * down e)) true (eq→eqb (nil (up e) (down e))) tt))
below_zero (fin false (suc m) e) h k = absurd (subst T h (lt→ltb (0 * down e) (suc m * up e * 1) (more (suc m * up e) (down e) (mul-pos {m = suc m} (lit m) (up_pos e)))))

-- neither is positive
pub zero_bound : (x r : Float) → eq x (of_bits binary64 0) ≡ true → T (positive x) → NearestRoot x r
unfolding eq of_bits
zero_bound nan r h p = absurd p
zero_bound (inf s) r h p = absurd p
zero_bound (fin true m e) r h p = absurd p
zero_bound (fin false zero e) r h p = absurd p
zero_bound (fin false (suc m) e) r h p = absurd (size_pos m e (eqb→eq (suc m * up e * 1) (0 * down e) (and_l (eqb (suc m * up e * 1) (0 * down e)) _ (subst T (sym h) tt))))

pub below_bound : (x r : Float) → lt (of_bits binary64 0) x ≡ false → T (positive x) → NearestRoot x r
unfolding lt of_bits
below_bound nan r h p = absurd p
below_bound (inf s) r h p = absurd p
below_bound (fin true m e) r h p = absurd p
below_bound (fin false zero e) r h p = absurd p
below_bound (fin false (suc m) e) r h p = absurd (subst T h (lt→ltb (0 * down e) (suc m * up e * 1) (more (suc m * up e) (down e) (mul-pos {m = suc m} (lit m) (up_pos e)))))
