-- Halves upward over whole numbers: the fraction n / e, rounded, is (n * 2 + e) / (e * 2). Assumes nothing.
use Rattle.std.proofs.Common.{◌≡◌, ℕ, suc, ◌+◌, ◌*◌, ◌/◌, ◌^◌, ◌<◌, sym, ap, ◌∙◌, mul_assoc, mul_comm, add-mul, pow-suc, mul_right_comm, arith, pow_pos}
use native.Mathlib.Nat.{div-eq_of_lt}
use lib.Ieee.Nearest.{div_same}
use Rattle.float.proofs.Patterns.{shift}

-- ---- the same fraction, written in another way
pub cross : (n e a c : ℕ) → n * c ≡ a * e → (n * 2 + e) * (c * 2) ≡ (a * 2 + c) * (e * 2)
cross n e a c h =
    add-mul (n * 2) e (c * 2)
    ∙ sum (n * 2 * (c * 2)) (e * (c * 2)) (a * 2 * (e * 2)) (c * (e * 2)) (n * c) (a * e) (four n c) (four a e) h (swap e c)
    ∙ sym (add-mul (a * 2) c (e * 2))
  where
    four : (x y : ℕ) → x * 2 * (y * 2) ≡ x * y * 4
    four x y = sym (mul_assoc (x * 2) y 2) ∙ ap (λ (z : ℕ). z * 2) (mul_right_comm x 2 y) ∙ mul_assoc (x * y) 2 2

    swap : (x y : ℕ) → x * (y * 2) ≡ y * (x * 2)
    swap x y = sym (mul_assoc x y 2) ∙ ap (λ (z : ℕ). z * 2) (mul_comm x y) ∙ mul_assoc y x 2

    sum : (p q r s u v : ℕ) → p ≡ u * 4 → r ≡ v * 4 → u ≡ v → q ≡ s → p + q ≡ r + s
    sum p q r s u v h i j k = omega arith

pub double_pos : (c : ℕ) → 0 < c → 0 < c * 2
double_pos c h = omega arith

-- ---- with a fraction: j + h is 1073
pub cut : (d j h : ℕ) → j + h ≡ 1073 → (d * 2 ^ j * 2 + 2 ^ 1074) / (2 ^ 1074 * 2) ≡ (d + 2 ^ h) / 2 ^ suc h
cut d j h e =
    div_same (d * 2 ^ j * 2 + 2 ^ 1074) (2 ^ 1074 * 2) (d + 2 ^ h) (2 ^ suc h) (double_pos (2 ^ 1074) (pow_pos 1074)) (pow_pos (suc h))
    (add-mul (d * 2 ^ j * 2) (2 ^ 1074) (2 ^ suc h)
    ∙ join (d * 2 ^ j * 2 * 2 ^ suc h) (2 ^ 1074 * 2 ^ suc h) (d * (2 ^ 1074 * 2)) (2 ^ h * (2 ^ 1074 * 2)) left right
    ∙ sym (add-mul d (2 ^ h) (2 ^ 1074 * 2)))
  where
    join : (p q r s : ℕ) → p ≡ r → q ≡ s → p + q ≡ r + s
    join p q r s a b = omega arith

    left : d * 2 ^ j * 2 * 2 ^ suc h ≡ d * (2 ^ 1074 * 2)
    left = ap (λ (z : ℕ). z * 2 ^ suc h) (shift d j 1) ∙ shift d (j + 1) (suc h) ∙ ap (λ (z : ℕ). d * 2 ^ z) (go j h e)
      where
        go : (j h : ℕ) → j + h ≡ 1073 → j + 1 + suc h ≡ 1075
        go j h e = omega arith

    right : 2 ^ 1074 * 2 ^ suc h ≡ 2 ^ h * (2 ^ 1074 * 2)
    right = ap (λ (z : ℕ). 2 ^ 1074 * z) (pow-suc 2 h) ∙ turn (2 ^ 1074) (2 ^ h)
      where
        turn : (p y : ℕ) → p * (y * 2) ≡ y * (p * 2)
        turn p y = sym (mul_assoc p y 2) ∙ ap (λ (z : ℕ). z * 2) (mul_comm p y) ∙ mul_assoc y p 2

-- ---- below a half
pub nothing : (a c : ℕ) → 0 < c → a * 2 < c → (a * 2 + c) / (c * 2) ≡ 0
nothing a c C h = div-eq_of_lt (go a c h)
  where
    go : (a c : ℕ) → a * 2 < c → a * 2 + c < c * 2
    go a c h = omega arith
