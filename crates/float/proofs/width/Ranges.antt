-- The four ranges of an `f64`'s pattern b, by its magnitude b % 2 ^ 63, and the pattern of the nearest `f32` in each. Assumes nothing.
use Rattle.std.proofs.Common.{◌≡◌, ℕ, suc, ◌+◌, ◌-◌, ◌*◌, ◌/◌, ◌%◌, ◌^◌, ◌<◌, ◌≤◌, Bool, true, false, cond, not}
use Rattle.std.proofs.Common.{T, leb, sym, refl, ap, ◌∙◌, subst, true≢false, inl, inr, mod-eq_of_lt, one-mul, add-one, arith, leb→le, pow_pos}
use lib.Dec.{nleb→lt}
use lib.Pow.{pow-lt, mod-mod-pow}
use lib.Ieee.{Float, nan, inf, fin, binary32, binary64, round, is_nan, fits, nan_bits, to_bits, of_bits}
use lib.Ieee.Fits.{round-fits, inf-fits, nan-fits, round_is}
use lib.Ieee.Bits.{of_bits-to_bits, to_bits-lt, nan_bits_is}
use lib.Ieee.Exact.{HasValue}
use Rattle.float.specs.Floats.{narrowed}
use Rattle.float.proofs.width.Closest.{closest_up}
use Rattle.float.proofs.Numbers.{units_number}
use Rattle.float.proofs.Patterns.{Value, read_own, inf_pattern}
use Rattle.float.proofs.width.Narrowing.{narrowed_at, normal, normal_bits, overflows, subnormal, subnormal_bits, nothing_left, closest_low_is}

-- ---- a number is the value of its pattern, and narrows to a number
narrowed_real : (x : Float) → T (not (is_nan x)) → T (not (is_nan (narrowed x)))
unfolding narrowed is_nan
narrowed_real nan h = absurd h
narrowed_real (inf s) h = tt
narrowed_real (fin s m e) h = subst (λ (y : Float). T (not (is_nan y))) (sym (round_is binary32 s _ _)) (units_number binary32 s _ _)

narrowed_fits : (x : Float) → T (fits binary32 (narrowed x))
unfolding narrowed
narrowed_fits nan = nan-fits binary32
narrowed_fits (inf s) = inf-fits binary32 s
narrowed_fits (fin s m e) = round-fits binary32 s _ _

pub narrowed_nan : (x : Float) → is_nan x ≡ true → nan ≡ narrowed x
unfolding narrowed is_nan
narrowed_nan nan h = refl
narrowed_nan (inf s) h = absurd (true≢false (sym h))
narrowed_nan (fin s m e) h = absurd (true≢false (sym h))

abbrev pub Done : Float → ℕ → Type 0
Done x p = T (not (nan_bits binary32 p)) × (of_bits binary32 p ≡ narrowed x) × (p < 2 ^ 32)

finish : (x : Float) (p : ℕ) → T (not (is_nan x)) → to_bits binary32 (narrowed x) ≡ p → Done x p
finish x p N e =
    let is : of_bits binary32 p ≡ narrowed x = ap (of_bits binary32) (sym e) ∙ of_bits-to_bits binary32 (narrowed x) (narrowed_fits x) in
    (subst (λ (b : Bool). T (not b)) (sym (nan_bits_is binary32 p ∙ ap is_nan is)) (narrowed_real x N), is, subst (λ (k : ℕ). k < 2 ^ 32) e (to_bits-lt binary32 (narrowed x) (narrowed_fits x)))

-- ---- the leading digits of a magnitude m: K, which is even, and d
parts : (y j : ℕ) → y % 2 ^ 63 / 2 ^ 52 ≡ suc j → y % 2 ^ 63 ≡ j * 8388608 * 2 ^ 29 + (2 ^ 52 + y % 2 ^ 52)
parts y j e = tail y (y % 2 ^ 63) j e (low_digits y)
  where
    low_digits : (y : ℕ) → y % 2 ^ 63 % 2 ^ 52 ≡ y % 2 ^ 52
    low_digits y = mod-mod-pow y 11 52

    tail : (y m j : ℕ) → m / 2 ^ 52 ≡ suc j → m % 2 ^ 52 ≡ y % 2 ^ 52 → m ≡ j * 8388608 * 2 ^ 29 + (2 ^ 52 + y % 2 ^ 52)
    tail y m j e f = omega arith

carried : (K d m : ℕ) → K % 2 ≡ 0 → m ≡ K * 2 ^ 29 + d → K + (d + 268435455 + d / 2 ^ 29 % 2) / 2 ^ 29 ≡ (m + 268435455 + m / 2 ^ 29 % 2) / 2 ^ 29
carried K d m z e = go (d / 2 ^ 29 % 2) (m / 2 ^ 29 % 2) (same (d / 2 ^ 29) (m / 2 ^ 29) (whole K d m e))
  where
    whole : (K d m : ℕ) → m ≡ K * 2 ^ 29 + d → m / 2 ^ 29 ≡ K + d / 2 ^ 29
    whole K d m e = omega arith

    same : (u v : ℕ) → v ≡ K + u → v % 2 ≡ u % 2
    same u v h = omega arith

    go : (u v : ℕ) → v ≡ u → K + (d + 268435455 + u) / 2 ^ 29 ≡ (m + 268435455 + v) / 2 ^ 29
    go u v h = omega arith

-- ---- the sign
sign_is : (b : ℕ) → b < 2 ^ 64 → cond (leb (2 ^ 63) b) (2 ^ 31) 0 ≡ b / 2 ^ 63 * 2 ^ 31
sign_is b B = go (leb (2 ^ 63) b) (leb→le (2 ^ 63) b) (nleb→lt (2 ^ 63) b)
  where
    go : (z : Bool) → (T z → 2 ^ 63 ≤ b) → (T (not z) → b < 2 ^ 63) → cond z (2 ^ 31) 0 ≡ b / 2 ^ 63 * 2 ^ 31
    go true h k = let g = h tt in omega arith
    go false h k = let g = k tt in omega arith

module _ (x : Float) (F : T (fits binary64 x)) (N : T (not (is_nan x))) where
  abbrev b : ℕ
  b = to_bits binary64 x

  B : b < 2 ^ 64
  B = to_bits-lt binary64 x F

  value : Value (leb (2 ^ 63) b) (b % 2 ^ 63 / 2 ^ 52) (b % 2 ^ 52) x
  value = read_own x F N

  -- from the pattern's magnitude
  to : (p : ℕ) → to_bits binary32 (narrowed x) ≡ cond (leb (2 ^ 63) b) (2 ^ 31) 0 + p → Done x (b / 2 ^ 63 * 2 ^ 31 + p)
  to p e = finish x (b / 2 ^ 63 * 2 ^ 31 + p) N (e ∙ ap (λ (z : ℕ). z + p) (sign_is b B))

  digit_hi : (y : ℕ) → 2 ^ 52 + y % 2 ^ 52 < 2 ^ 53
  digit_hi y = omega arith

  digit_lo : (y : ℕ) → 2 ^ 52 ≤ 2 ^ 52 + y % 2 ^ 52
  digit_lo y = omega arith

  pub in_normal : 897 * 2 ^ 52 ≤ b % 2 ^ 63 → b % 2 ^ 63 < 1151 * 2 ^ 52 → Done x (b / 2 ^ 63 * 2 ^ 31 + ((b % 2 ^ 63 + 268435455 + b % 2 ^ 63 / 2 ^ 29 % 2) / 2 ^ 29 - 7516192768))
  in_normal lo hi =
      elim value [
        | inl v ↦ absurd (none (b % 2 ^ 63) lo v.0)
        | inr (inl v) ↦ go v.0 v.1 v.3
        | inr (inr v) ↦ absurd (late (b % 2 ^ 63) hi v.0)
      ]
    where
      none : (m : ℕ) → 897 * 2 ^ 52 ≤ m → m / 2 ^ 52 ≡ 0 → ⊥
      none m h e = omega arith

      late : (m : ℕ) → m < 1151 * 2 ^ 52 → m / 2 ^ 52 ≡ 2047 → ⊥
      late m h e = omega arith

      back : (m j : ℕ) → 897 * 2 ^ 52 ≤ m → m / 2 ^ 52 ≡ suc j → j ≡ j - 896 + 896
      back m j h e = omega arith

      small : (m j : ℕ) → m < 1151 * 2 ^ 52 → m / 2 ^ 52 ≡ suc j → j - 896 < 254
      small m j h e = omega arith

      sum : (y j : ℕ) → 897 * 2 ^ 52 ≤ y % 2 ^ 63 → y % 2 ^ 63 / 2 ^ 52 ≡ suc j
          → (j - 896) * 2 ^ 23 + (2 ^ 52 + y % 2 ^ 52 + (2 ^ 28 - 1) + (2 ^ 52 + y % 2 ^ 52) / 2 ^ 29 % 2) / 2 ^ 29 ≡ (y % 2 ^ 63 + 268435455 + y % 2 ^ 63 / 2 ^ 29 % 2) / 2 ^ 29 - 7516192768
      sum y j h e = off (y % 2 ^ 63) j _ h e ∙ ap (λ (z : ℕ). z - 7516192768) (carried (j * 8388608) (2 ^ 52 + y % 2 ^ 52) (y % 2 ^ 63) (even j) (parts y j e))
        where
          even : (j : ℕ) → j * 8388608 % 2 ≡ 0
          even j = omega arith

          off : (m j q : ℕ) → 897 * 2 ^ 52 ≤ m → m / 2 ^ 52 ≡ suc j → (j - 896) * 2 ^ 23 + q ≡ j * 8388608 + q - 7516192768
          off m j q a b = go j q (reach m j a b)
            where
              reach : (m j : ℕ) → 897 * 2 ^ 52 ≤ m → m / 2 ^ 52 ≡ suc j → 896 ≤ j
              reach m j a b = omega arith

              go : (j q : ℕ) → 896 ≤ j → (j - 896) * 2 ^ 23 + q ≡ j * 8388608 + q - 7516192768
              go j q h = omega arith

      go : (j : ℕ) → b % 2 ^ 63 / 2 ^ 52 ≡ suc j → HasValue x (leb (2 ^ 63) b) ((2 ^ 52 + b % 2 ^ 52) * 2 ^ j) (2 ^ 1074)
          → Done x (b / 2 ^ 63 * 2 ^ 31 + ((b % 2 ^ 63 + 268435455 + b % 2 ^ 63 / 2 ^ 29 % 2) / 2 ^ 29 - 7516192768))
      go j e v =
          let s = leb (2 ^ 63) b in
          let d = 2 ^ 52 + b % 2 ^ 52 in
          let i = j - 896 in
          to _
          (ap (to_bits binary32)
          (narrowed_at x s (d * 2 ^ j) (2 ^ 1074) (pow_pos 1074) v
          ∙ ap (λ (z : ℕ). round binary32 s (d * 2 ^ z) (2 ^ 1074)) (back (b % 2 ^ 63) j lo e)
          ∙ normal d i (digit_lo b) (digit_hi b) s)
          ∙ normal_bits d i (digit_lo b) (digit_hi b) s (small (b % 2 ^ 63) j hi e)
          ∙ ap (λ (z : ℕ). cond s (2 ^ 31) 0 + z) (ap (λ (z : ℕ). i * 2 ^ 23 + z) (closest_up d (2 ^ 28) (pow_pos 28)) ∙ sum b j lo e))

  pub in_overflow : 1151 * 2 ^ 52 ≤ b % 2 ^ 63 → Done x (b / 2 ^ 63 * 2 ^ 31 + 2139095040)
  in_overflow lo =
      elim value [
        | inl v ↦ absurd (none (b % 2 ^ 63) lo v.0)
        | inr (inl v) ↦ go v.0 v.1 v.3
        | inr (inr v) ↦ to _ (ap (λ (y : Float). to_bits binary32 (narrowed y)) v.1 ∙ unfold narrowed in inf_pattern binary32 (leb (2 ^ 63) b))
      ]
    where
      none : (m : ℕ) → 1151 * 2 ^ 52 ≤ m → m / 2 ^ 52 ≡ 0 → ⊥
      none m h e = omega arith

      back : (m j : ℕ) → 1151 * 2 ^ 52 ≤ m → m / 2 ^ 52 ≡ suc j → j ≡ j - 896 + 896
      back m j h e = omega arith

      large : (m j : ℕ) → 1151 * 2 ^ 52 ≤ m → m / 2 ^ 52 ≡ suc j → 254 ≤ j - 896
      large m j h e = omega arith

      go : (j : ℕ) → b % 2 ^ 63 / 2 ^ 52 ≡ suc j → HasValue x (leb (2 ^ 63) b) ((2 ^ 52 + b % 2 ^ 52) * 2 ^ j) (2 ^ 1074) → Done x (b / 2 ^ 63 * 2 ^ 31 + 2139095040)
      go j e v =
          let s = leb (2 ^ 63) b in
          let d = 2 ^ 52 + b % 2 ^ 52 in
          let i = j - 896 in
          to _
          (ap (to_bits binary32)
          (narrowed_at x s (d * 2 ^ j) (2 ^ 1074) (pow_pos 1074) v
          ∙ ap (λ (z : ℕ). round binary32 s (d * 2 ^ z) (2 ^ 1074)) (back (b % 2 ^ 63) j lo e)
          ∙ normal d i (digit_lo b) (digit_hi b) s
          ∙ overflows d i (digit_lo b) (digit_hi b) s (large (b % 2 ^ 63) j lo e))
          ∙ inf_pattern binary32 s)

  -- h + 1 digits are cut off
  pub in_subnormal : (h : ℕ) → h + b % 2 ^ 63 / 2 ^ 52 ≡ 925 → 872 * 2 ^ 52 ≤ b % 2 ^ 63 → b % 2 ^ 63 < 897 * 2 ^ 52
      → Done x (b / 2 ^ 63 * 2 ^ 31 + (2 ^ 52 + b % 2 ^ 52 + (2 ^ h - 1) + (2 ^ 52 + b % 2 ^ 52) / 2 ^ suc h % 2) / 2 ^ suc h)
  in_subnormal h H lo hi =
      elim value [
        | inl v ↦ absurd (none (b % 2 ^ 63) lo v.0)
        | inr (inl v) ↦ go v.0 v.1 v.3
        | inr (inr v) ↦ absurd (late (b % 2 ^ 63) hi v.0)
      ]
    where
      none : (m : ℕ) → 872 * 2 ^ 52 ≤ m → m / 2 ^ 52 ≡ 0 → ⊥
      none m h e = omega arith

      late : (m : ℕ) → m < 897 * 2 ^ 52 → m / 2 ^ 52 ≡ 2047 → ⊥
      late m h e = omega arith

      J : (m j : ℕ) → m < 897 * 2 ^ 52 → m / 2 ^ 52 ≡ suc j → j < 897
      J m j h e = omega arith

      cut : (h m j : ℕ) → h + m / 2 ^ 52 ≡ 925 → m / 2 ^ 52 ≡ suc j → j + suc h ≡ 925
      cut h m j a e = omega arith

      enough : (h m : ℕ) → h + m / 2 ^ 52 ≡ 925 → m < 897 * 2 ^ 52 → 29 ≤ suc h
      enough h m a e = omega arith

      go : (j : ℕ) → b % 2 ^ 63 / 2 ^ 52 ≡ suc j → HasValue x (leb (2 ^ 63) b) ((2 ^ 52 + b % 2 ^ 52) * 2 ^ j) (2 ^ 1074)
          → Done x (b / 2 ^ 63 * 2 ^ 31 + (2 ^ 52 + b % 2 ^ 52 + (2 ^ h - 1) + (2 ^ 52 + b % 2 ^ 52) / 2 ^ suc h % 2) / 2 ^ suc h)
      go j e v =
          let s = leb (2 ^ 63) b in
          let d = 2 ^ 52 + b % 2 ^ 52 in
          let K = cut h (b % 2 ^ 63) j H e in
          let L = J (b % 2 ^ 63) j hi e in
          to _
          (ap (to_bits binary32) (narrowed_at x s (d * 2 ^ j) (2 ^ 1074) (pow_pos 1074) v ∙ subnormal d j h (digit_hi b) L K s)
          ∙ subnormal_bits d j h (digit_hi b) L K s (enough h (b % 2 ^ 63) H hi)
          ∙ ap (λ (z : ℕ). cond s (2 ^ 31) 0 + z) (closest_low_is d j h (digit_hi b) L K))

  -- as the code has it: one digit less than are cut off, and the half as a shift
  abbrev pub cut : ℕ
  cut = 925 - b % 2 ^ 63 / 2 ^ 52

  abbrev pub half : ℕ
  half = 1 * 2 ^ cut % 2 ^ 64

  half_is : 872 * 2 ^ 52 ≤ b % 2 ^ 63 → half ≡ 2 ^ cut
  half_is lo = ap (λ (z : ℕ). z % 2 ^ 64) (one-mul (2 ^ cut)) ∙ mod-eq_of_lt (pow-lt (go (b % 2 ^ 63) lo))
    where
      go : (m : ℕ) → 872 * 2 ^ 52 ≤ m → 925 - m / 2 ^ 52 < 64
      go m e = omega arith

  pub in_coded : 872 * 2 ^ 52 ≤ b % 2 ^ 63 → b % 2 ^ 63 < 897 * 2 ^ 52 → Done x (b / 2 ^ 63 * 2 ^ 31 + (2 ^ 52 + b % 2 ^ 52 + (half - 1) +
      (2 ^ 52 + b % 2 ^ 52) / 2 ^ (cut + 1) % 2) / 2 ^ (cut + 1))
  in_coded lo hi =
      subst (λ (z : ℕ). Done x (b / 2 ^ 63 * 2 ^ 31 + (2 ^ 52 + b % 2 ^ 52 + (z - 1) + (2 ^ 52 + b % 2 ^ 52) / 2 ^ (cut + 1) % 2) / 2 ^ (cut + 1))) (sym (half_is lo))
      (subst (λ (z : ℕ). Done x (b / 2 ^ 63 * 2 ^ 31 + (2 ^ 52 + b % 2 ^ 52 + (2 ^ cut - 1) + (2 ^ 52 + b % 2 ^ 52) / 2 ^ z % 2) / 2 ^ z))
      (sym (add-one cut)) (in_subnormal cut (go (b % 2 ^ 63) hi) lo hi))
    where
      go : (m : ℕ) → m < 897 * 2 ^ 52 → 925 - m / 2 ^ 52 + m / 2 ^ 52 ≡ 925
      go m e = omega arith

  pub in_zero : b % 2 ^ 63 < 872 * 2 ^ 52 → Done x (b / 2 ^ 63 * 2 ^ 31 + 0)
  in_zero hi =
      elim value [
        | inl v ↦ go 0 (b % 2 ^ 52) 924 (less b) (lt 0 refl) refl v.1 (lt2 924 refl)
        | inr (inl v) ↦ go v.0 (2 ^ 52 + b % 2 ^ 52) (924 - v.0) (digit_hi b) (J (b % 2 ^ 63) v.0 hi v.1) (cut (b % 2 ^ 63) v.0 hi v.1) v.3 (far (b % 2 ^ 63) v.0 hi v.1)
        | inr (inr v) ↦ absurd (late (b % 2 ^ 63) hi v.0)
      ]
    where
      less : (y : ℕ) → y % 2 ^ 52 < 2 ^ 53
      less y = omega arith

      lt : (j : ℕ) → j ≡ 0 → j < 897
      lt j e = omega arith

      lt2 : (h : ℕ) → h ≡ 924 → 53 ≤ h
      lt2 h e = omega arith

      late : (m : ℕ) → m < 872 * 2 ^ 52 → m / 2 ^ 52 ≡ 2047 → ⊥
      late m h e = omega arith

      J : (m j : ℕ) → m < 872 * 2 ^ 52 → m / 2 ^ 52 ≡ suc j → j < 897
      J m j h e = omega arith

      cut : (m j : ℕ) → m < 872 * 2 ^ 52 → m / 2 ^ 52 ≡ suc j → j + suc (924 - j) ≡ 925
      cut m j a e = omega arith

      far : (m j : ℕ) → m < 872 * 2 ^ 52 → m / 2 ^ 52 ≡ suc j → 53 ≤ 924 - j
      far m j a e = omega arith

      wide : (h : ℕ) → 53 ≤ h → 29 ≤ suc h
      wide h g = omega arith

      go : (j d h : ℕ) → d < 2 ^ 53 → j < 897 → j + suc h ≡ 925 → HasValue x (leb (2 ^ 63) b) (d * 2 ^ j) (2 ^ 1074) → 53 ≤ h → Done x (b / 2 ^ 63 * 2 ^ 31 + 0)
      go j d h D L K v g =
          let s = leb (2 ^ 63) b in
          to _
          (ap (to_bits binary32) (narrowed_at x s (d * 2 ^ j) (2 ^ 1074) (pow_pos 1074) v ∙ subnormal d j h D L K s)
          ∙ subnormal_bits d j h D L K s (wide h g)
          ∙ ap (λ (z : ℕ). cond s (2 ^ 31) 0 + z) (nothing_left d j h D L K g))
