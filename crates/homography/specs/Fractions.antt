-- Fractions of whole numbers, and their operations; then that no operation depends on which of two fractions of the
-- same value is taken. Assumes nothing.
use Rattle.std.specs.Prelude.{◌≡◌, refl, Bool, true, false, ℕ, zero, suc, ◌+◌, ◌*◌, ◌<◌, T, ltb, eqb, ℤ, pos, negsuc}
use Rattle.std.proofs.Common.{sym, ap, subst, mul-pos, arith, lit<, ltb→lt, nltb→le, eqb→eq}
use Rattle.std.proofs.Math.Logic.{Equivalence}
use Rattle.std.proofs.Math.Nat.{eq_of_mul-eq-mul_right}
use Rattle.std.proofs.Math.Dec.{eqb_refl}
use Rattle.std.proofs.Math.IntN.{sub_ℕ}

-- (plus − minus) / den
pub record Fraction : Type 0 where
  pub plus : ℕ
  pub minus : ℕ
  pub den : ℕ
  pub den_pos : 0 < den

-- two fractions of the same value, cross-multiplied
abbrev pub Same : Fraction → Fraction → Type 0
Same x y = x.plus * y.den + y.minus * x.den ≡ y.plus * x.den + x.minus * y.den

-- a / b for whole numbers
abbrev pub fraction : ℕ → (b : ℕ) → 0 < b → Fraction
fraction a b h = record { plus = a; minus = 0; den = b; den_pos = h }

abbrev pub sum : Fraction → Fraction → Fraction
sum x y = record {
  plus = x.plus * y.den + y.plus * x.den;
  minus = x.minus * y.den + y.minus * x.den;
  den = x.den * y.den;
  den_pos = mul-pos x.den_pos y.den_pos;
}

abbrev pub opposite : Fraction → Fraction
opposite x = record { plus = x.minus; minus = x.plus; den = x.den; den_pos = x.den_pos }

abbrev pub product : Fraction → Fraction → Fraction
product x y = record {
  plus = x.plus * y.plus + x.minus * y.minus;
  minus = x.plus * y.minus + x.minus * y.plus;
  den = x.den * y.den;
  den_pos = mul-pos x.den_pos y.den_pos;
}

-- den / (plus − minus), and 0 where there is none
abbrev pub reciprocal_of : (e : ℕ) → ℤ → Fraction
reciprocal_of e (pos zero) = fraction 0 1 (lit< tt)
reciprocal_of e (pos (suc a)) = record { plus = e; minus = 0; den = suc a; den_pos = omega arith }
reciprocal_of e (negsuc a) = record { plus = 0; minus = e; den = suc a; den_pos = omega arith }

abbrev pub top : Fraction → ℤ
top x = sub_ℕ x.plus x.minus

abbrev pub reciprocal : Fraction → Fraction
reciprocal x = reciprocal_of x.den (top x)

-- `Same`, as a test
abbrev pub equal : Fraction → Fraction → Bool
equal x y = eqb (x.plus * y.den + y.minus * x.den) (y.plus * x.den + x.minus * y.den)

-- ---- no operation depends on the fraction chosen

trans_cross :
    (p n d q m e r s f : ℕ) → p * e + m * d ≡ q * d + n * e → q * f + s * e ≡ r * e + m * f
    → (p * f + s * d) * e ≡ (r * d + n * f) * e
trans_cross p n d q m e r s f h k = omega (arith, ap (λ (z : ℕ). z * f) h, ap (λ (z : ℕ). z * d) k)

pub same_trans : (x y z : Fraction) → Same x y → Same y z → Same x z
same_trans x y z h k =
    eq_of_mul-eq-mul_right y.den y.den_pos _ _
    (trans_cross x.plus x.minus x.den y.plus y.minus y.den z.plus z.minus z.den h k)

pub same_equivalence : Equivalence Same
same_equivalence = record { refl = λ x. refl; symm = λ x y h. sym h; trans = same_trans }

sum_cross :
    (p n d p' n' d' q m e : ℕ) → p * d' + n' * d ≡ p' * d + n * d'
    → (p * e + q * d) * (d' * e) + (n' * e + m * d') * (d * e)
    ≡ (p' * e + q * d') * (d * e) + (n * e + m * d) * (d' * e)
sum_cross p n d p' n' d' q m e h = omega (arith, ap (λ (z : ℕ). z * (e * e)) h)

sum_cross_right :
    (p n d q m e q' m' e' : ℕ) → q * e' + m' * e ≡ q' * e + m * e'
    → (p * e + q * d) * (d * e') + (n * e' + m' * d) * (d * e)
    ≡ (p * e' + q' * d) * (d * e) + (n * e + m * d) * (d * e')
sum_cross_right p n d q m e q' m' e' h = omega (arith, ap (λ (z : ℕ). z * (d * d)) h)

pub sum_same : (x y x' y' : Fraction) → Same x x' → Same y y' → Same (sum x y) (sum x' y')
sum_same x y x' y' h k =
    same_trans (sum x y) (sum x' y) (sum x' y')
    (sum_cross x.plus x.minus x.den x'.plus x'.minus x'.den y.plus y.minus y.den h)
    (sum_cross_right x'.plus x'.minus x'.den y.plus y.minus y.den y'.plus y'.minus y'.den k)

pub opposite_same : (x y : Fraction) → Same x y → Same (opposite x) (opposite y)
opposite_same x y h = omega arith

left_cross :
    (p n d p' n' d' q m e : ℕ) → p * d' + n' * d ≡ p' * d + n * d'
    → (p * q + n * m) * (d' * e) + (p' * m + n' * q) * (d * e)
    ≡ (p' * q + n' * m) * (d * e) + (p * m + n * q) * (d' * e)
left_cross p n d p' n' d' q m e h = omega (arith, ap (λ (z : ℕ). z * (q * e)) h, ap (λ (z : ℕ). z * (m * e)) h)

right_cross :
    (p n d q m e q' m' e' : ℕ) → q * e' + m' * e ≡ q' * e + m * e'
    → (p * q + n * m) * (d * e') + (p * m' + n * q') * (d * e)
    ≡ (p * q' + n * m') * (d * e) + (p * m + n * q) * (d * e')
right_cross p n d q m e q' m' e' h = omega (arith, ap (λ (z : ℕ). z * (p * d)) h, ap (λ (z : ℕ). z * (n * d)) h)

pub product_same : (x y x' y' : Fraction) → Same x x' → Same y y' → Same (product x y) (product x' y')
product_same x y x' y' h k =
    same_trans (product x y) (product x' y) (product x' y')
    (left_cross x.plus x.minus x.den x'.plus x'.minus x'.den y.plus y.minus y.den h)
    (right_cross x'.plus x'.minus x'.den y.plus y.minus y.den y'.plus y'.minus y'.den k)

-- a whole number as a difference
abbrev pub above : ℤ → ℕ
above (pos n) = n
above (negsuc n) = 0

abbrev pub below : ℤ → ℕ
below (pos n) = 0
below (negsuc n) = suc n

pub top_is : (a b : ℕ) → above (sub_ℕ a b) + b ≡ a + below (sub_ℕ a b)
top_is a b = go (ltb a b) refl
  where
    go : (t : Bool) → ltb a b ≡ t → above (sub_ℕ a b) + b ≡ a + below (sub_ℕ a b)
    go true e = rw e (omega (arith, ltb→lt a b (rw e tt)))
    go false e = rw e (omega (arith, nltb→le a b (rw e tt)))

reciprocal_cross : (d e : ℕ) (z w : ℤ) → 0 < d → 0 < e → above z * e + below w * d ≡ above w * d + below z * e
    → Same (reciprocal_of d z) (reciprocal_of e w)
reciprocal_cross d e (pos zero) (pos zero) l r h = refl
reciprocal_cross d e (pos zero) (pos (suc b)) l r h = absurd (omega (arith, mul-pos {m = suc b} (omega arith) l))
reciprocal_cross d e (pos zero) (negsuc b) l r h = absurd (omega (arith, mul-pos {m = suc b} (omega arith) l))
reciprocal_cross d e (pos (suc a)) (pos zero) l r h = absurd (omega (arith, mul-pos {m = suc a} (omega arith) r))
reciprocal_cross d e (pos (suc a)) (pos (suc b)) l r h = omega arith
reciprocal_cross d e (pos (suc a)) (negsuc b) l r h = absurd (omega (arith, mul-pos {m = suc a} (omega arith) r))
reciprocal_cross d e (negsuc a) (pos zero) l r h = absurd (omega (arith, mul-pos {m = suc a} (omega arith) r))
reciprocal_cross d e (negsuc a) (pos (suc b)) l r h = absurd (omega (arith, mul-pos {m = suc a} (omega arith) r))
reciprocal_cross d e (negsuc a) (negsuc b) l r h = omega arith

top_cross :
    (p n d q m e a b a' b' : ℕ) → p * e + m * d ≡ q * d + n * e → a + n ≡ p + b → a' + m ≡ q + b'
    → a * e + b' * d ≡ a' * d + b * e
top_cross p n d q m e a b a' b' h k l = omega (arith, ap (λ (z : ℕ). z * e) k, ap (λ (z : ℕ). z * d) l)

pub reciprocal_same : (x y : Fraction) → Same x y → Same (reciprocal x) (reciprocal y)
reciprocal_same x y h =
    reciprocal_cross x.den y.den (top x) (top y) x.den_pos y.den_pos
    (top_cross x.plus x.minus x.den y.plus y.minus y.den _ _ _ _ h (top_is x.plus x.minus)
    (top_is y.plus y.minus))

either_way : (s t : Bool) → (T s → T t) → (T t → T s) → s ≡ t
either_way true true f g = refl
either_way true false f g = absurd (f tt)
either_way false true f g = absurd (g tt)
either_way false false f g = refl

to_eqb : (a b : ℕ) → a ≡ b → T (eqb a b)
to_eqb a b h = subst (λ (k : ℕ). T (eqb a k)) h (eqb_refl a)

equal_follows : (x y x' y' : Fraction) → Same x x' → Same y y' → T (equal x y) → T (equal x' y')
equal_follows x y x' y' h k t = to_eqb _ _ (same_trans x' x y' (sym h) (same_trans x y y' (eqb→eq _ _ t) k))

pub equal_same : (x y x' y' : Fraction) → Same x x' → Same y y' → equal x y ≡ equal x' y'
equal_same x y x' y' h k =
    either_way (equal x y) (equal x' y') (equal_follows x y x' y' h k) (equal_follows x' y' x y (sym h) (sym k))
