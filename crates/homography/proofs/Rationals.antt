-- The rationals are a field; two fractions are the same rational only where they are so cross-multiplied. Assumes nothing.
use mathlib.Core.Path.{◌≡◌, refl, sym, ap, subst, ◌∙◌}
use mathlib.Core.HLevel.{hedberg, Π_prop}
use mathlib.Core.Bool.{Bool, true}
use mathlib.Core.Quot.Quotient
use Prim.Native.Nat.{ℕ, zero, suc, ◌+◌, ◌*◌, ◌<◌}
use native.Mathlib.Decide.{ℕ_discrete}
use native.Mathlib.Omega.{arith}
use lib.Dec.{T, lit<, eqb→eq}
use lib.IntN.{ℤ, pos, negsuc}
use Rattle.homography.specs.Arithmetic.{CommutativeRing, Field}
use Rattle.homography.specs.Fractions.{Fraction, Same, fraction, product, reciprocal_of, top, above, below, top_is}
use Rattle.homography.specs.Rationals.{fractions, rational, rational_same, SameRational, ℚ, ℚ-set, ◌+ℚ◌, -ℚ◌, ◌*ℚ◌, inverseℚ, sameℚ, 0ℚ, 1ℚ, exact}

ℕ_set : IsSet ℕ
ℕ_set = hedberg ℕ_discrete

pub same_rational : SameRational
same_rational x y = (λ e. Quotient.exact fractions (λ a b. ℕ_set _ _) e, rational_same)

pub nought_is_not_one : ¬ (0ℚ ≡ 1ℚ)
nought_is_not_one e = omega (arith, (same_rational (fraction 0 1 (lit< tt)) (fraction 1 1 (lit< tt))).0 e)

-- an equation between rationals is one between fractions
law₁ : (f g : ℚ → ℚ) → ((a : Fraction) → f (rational a) ≡ g (rational a)) → (x : ℚ) → f x ≡ g x
law₁ f g h = Quotient.ind fractions (λ x. ℚ-set (f x) (g x)) h

law₂ : (f g : ℚ → ℚ → ℚ) → ((a b : Fraction) → f (rational a) (rational b) ≡ g (rational a) (rational b)) → (x y : ℚ) → f x y ≡ g x y
law₂ f g h = Quotient.ind₂ fractions fractions (λ x y. ℚ-set (f x y) (g x y)) h

law₃ :
    (f g : ℚ → ℚ → ℚ → ℚ) → ((a b c : Fraction) → f (rational a) (rational b) (rational c) ≡ g (rational a) (rational b) (rational c))
    → (x y z : ℚ) → f x y z ≡ g x y z
law₃ f g h x y z = Quotient.induction_on₃ fractions fractions fractions (λ x y z. ℚ-set (f x y z) (g x y z)) x y z h

-- ---- the laws, on numbers

-- a fraction of which all three numbers are multiplied by k
times_same : (p n d p' n' d' k : ℕ) → p' ≡ p * k → n' ≡ n * k → d' ≡ d * k → p * d' + n' * d ≡ p' * d + n * d'
times_same p n d p' n' d' k h i j = rw (h, i, j) (omega arith)

module _ (p n d q m e r s f : ℕ) where
  plus_assoc_cross :
      ((p * e + q * d) * f + r * (d * e)) * (d * (e * f)) + (n * (e * f) + (m * f + s * e) * d) * (d * e * f)
      ≡ (p * (e * f) + (q * f + r * e) * d) * (d * e * f) + ((n * e + m * d) * f + s * (d * e)) * (d * (e * f))
  plus_assoc_cross = omega arith

  times_assoc_cross :
      ((p * q + n * m) * r + (p * m + n * q) * s) * (d * (e * f)) + (p * (q * s + m * r) + n * (q * r + m * s)) * (d * e * f)
      ≡ (p * (q * r + m * s) + n * (q * s + m * r)) * (d * e * f) + ((p * q + n * m) * s + (p * m + n * q) * r) * (d * (e * f))
  times_assoc_cross = omega arith

  times_plus_cross :
      (p * (q * f + r * e) + n * (m * f + s * e)) * (d * e * (d * f)) + ((p * m + n * q) * (d * f) + (p * s + n * r) * (d * e)) * (d * (e * f))
      ≡ ((p * q + n * m) * (d * f) + (p * r + n * s) * (d * e)) * (d * (e * f)) + (p * (m * f + s * e) + n * (q * f + r * e)) * (d * e * (d * f))
  times_plus_cross = times_same _ _ (d * (e * f)) _ _ _ d (omega arith) (omega arith) (omega arith)

module _ (p n d q m e : ℕ) where
  plus_comm_cross : (p * e + q * d) * (e * d) + (m * d + n * e) * (d * e) ≡ (q * d + p * e) * (d * e) + (n * e + m * d) * (e * d)
  plus_comm_cross = omega arith

  times_comm_cross : (p * q + n * m) * (e * d) + (q * n + m * p) * (d * e) ≡ (q * p + m * n) * (d * e) + (p * m + n * q) * (e * d)
  times_comm_cross = omega arith

module _ (p n d : ℕ) where
  plus_nought_cross : (p * 1 + 0 * d) * d + n * (d * 1) ≡ p * (d * 1) + (n * 1 + 0 * d) * d
  plus_nought_cross = omega arith

  plus_minus_cross : (p * d + n * d) * 1 + 0 * (d * d) ≡ 0 * (d * d) + (n * d + p * d) * 1
  plus_minus_cross = omega arith

  times_one_cross : (p * 1 + n * 0) * d + n * (d * 1) ≡ p * (d * 1) + (p * 0 + n * 1) * d
  times_one_cross = omega arith

plus_assoc : (x y z : ℚ) → x +ℚ y +ℚ z ≡ x +ℚ (y +ℚ z)
unfolding ◌+ℚ◌
plus_assoc = law₃ _ _ (λ a b c. rational_same (plus_assoc_cross a.plus a.minus a.den b.plus b.minus b.den c.plus c.minus c.den))

plus_comm : (x y : ℚ) → x +ℚ y ≡ y +ℚ x
unfolding ◌+ℚ◌
plus_comm = law₂ _ _ (λ a b. rational_same (plus_comm_cross a.plus a.minus a.den b.plus b.minus b.den))

plus_nought : (x : ℚ) → x +ℚ 0ℚ ≡ x
unfolding ◌+ℚ◌
plus_nought = law₁ _ _ (λ a. rational_same (plus_nought_cross a.plus a.minus a.den))

plus_minus : (x : ℚ) → x +ℚ (-ℚ x) ≡ 0ℚ
unfolding ◌+ℚ◌ -ℚ◌
plus_minus = law₁ _ _ (λ a. rational_same (plus_minus_cross a.plus a.minus a.den))

times_assoc : (x y z : ℚ) → x *ℚ y *ℚ z ≡ x *ℚ (y *ℚ z)
unfolding ◌*ℚ◌
times_assoc = law₃ _ _ (λ a b c. rational_same (times_assoc_cross a.plus a.minus a.den b.plus b.minus b.den c.plus c.minus c.den))

times_comm : (x y : ℚ) → x *ℚ y ≡ y *ℚ x
unfolding ◌*ℚ◌
times_comm = law₂ _ _ (λ a b. rational_same (times_comm_cross a.plus a.minus a.den b.plus b.minus b.den))

times_one : (x : ℚ) → x *ℚ 1ℚ ≡ x
unfolding ◌*ℚ◌
times_one = law₁ _ _ (λ a. rational_same (times_one_cross a.plus a.minus a.den))

times_plus : (x y z : ℚ) → x *ℚ (y +ℚ z) ≡ x *ℚ y +ℚ x *ℚ z
unfolding ◌+ℚ◌ ◌*ℚ◌
times_plus = law₃ _ _ (λ a b c. rational_same (times_plus_cross a.plus a.minus a.den b.plus b.minus b.den c.plus c.minus c.den))

pub rational_ring : (prefers : ℚ → ℚ → Bool) (refuses : ℚ → Bool) → CommutativeRing (exact prefers refuses)
rational_ring prefers refuses = record {
  plus_assoc = plus_assoc;
  plus_comm = plus_comm;
  plus_nought = plus_nought;
  plus_minus = plus_minus;
  times_assoc = times_assoc;
  times_comm = times_comm;
  times_one = times_one;
  times_plus = times_plus;
}

-- ---- reciprocals
module _ (p n d : ℕ) (l : 0 < d) where
  abbrev it : Fraction
  it = record { plus = p; minus = n; den = d; den_pos = l }

  reciprocal_cross : (z : ℤ) → above z + n ≡ p + below z → ¬ (Same it (fraction 0 1 (lit< tt))) → Same (product (reciprocal_of d z) it) (fraction 1 1 (lit< tt))
  reciprocal_cross (pos zero) h o = absurd (o (omega arith))
  reciprocal_cross (pos (suc a)) h o = omega (arith, ap (λ (k : ℕ). k * d) h)
  reciprocal_cross (negsuc a) h o = omega (arith, ap (λ (k : ℕ). k * d) h)

inverse_times : (x : ℚ) → ¬ (x ≡ 0ℚ) → inverseℚ x *ℚ x ≡ 1ℚ
unfolding ◌*ℚ◌ inverseℚ
inverse_times =
    Quotient.ind fractions (λ x. Π_prop (λ h. ℚ-set (inverseℚ x *ℚ x) 1ℚ))
    (λ a h. rational_same (reciprocal_cross a.plus a.minus a.den a.den_pos (top a) (top_is a.plus a.minus) (λ s. h (rational_same s))))

over_times : (x y : ℚ) → ¬ (y ≡ 0ℚ) → x *ℚ inverseℚ y *ℚ y ≡ x
over_times x y h = times_assoc x (inverseℚ y) y ∙ ap (λ z. x *ℚ z) (inverse_times y h) ∙ times_one x

same_is : (x y : ℚ) → sameℚ x y ≡ true → x ≡ y
unfolding sameℚ
same_is = Quotient.ind₂ fractions fractions (λ x y. Π_prop (λ h. ℚ-set x y)) (λ a b h. rational_same (eqb→eq _ _ (subst T (sym h) tt)))

pub rational_field : (prefers : ℚ → ℚ → Bool) (refuses : ℚ → Bool) → refuses 0ℚ ≡ true → Field (exact prefers refuses)
rational_field prefers refuses h = record {
  ring = rational_ring prefers refuses;
  less_is = λ x y. refl;
  over_times = over_times;
  nought_small = h;
  same_is = same_is;
}
