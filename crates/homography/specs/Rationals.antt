-- The rational numbers, in which no result is rounded, and the value of an f64. A rational is a fraction of whole
-- numbers, and two fractions of the same value are one rational. Assumes nothing.
use Rattle.std.specs.Prelude.{◌≡◌, Bool, true, false, List, [], ◌∷◌, ◌↔◌, ℕ, ◌*◌, ◌<◌, Float}
use Rattle.std.proofs.Math.Bool.{Bool-set}
use mathlib.Core.Quot.Quotient
use mathlib.Core.Quot.{Setoid, Quotient, Quotient-set}
use Rattle.std.proofs.Common.{lit<}
use Rattle.std.specs.Float.{nan, inf, fin}
use Rattle.std.specs.Float.Ieee.{up, down}
use Rattle.std.specs.Float.Ieee.Exact.{HasValue}
use Rattle.std.specs.Float.Ieee.Fits.{down_pos}
use Rattle.homography.specs.Arithmetic.{Arithmetic}
use Rattle.homography.specs.Fractions.{Fraction, Same, same_equivalence, fraction, sum, opposite, product}
use Rattle.homography.specs.Fractions.{reciprocal, equal}
use Rattle.homography.specs.Fractions.{sum_same, opposite_same, product_same, reciprocal_same, equal_same}

abbrev pub fractions : Setoid {0, 0} Fraction
fractions = record { r = Same; iseqv = same_equivalence }

abbrev pub ℚ : Type 0
ℚ = Quotient fractions

pub ℚ-set : IsSet ℚ
ℚ-set = Quotient-set fractions

abbrev pub rational : Fraction → ℚ
rational x = Quotient.mk fractions x

pub rational_same : {x y : Fraction} → Same x y → rational x ≡ rational y
rational_same h = Quotient.sound fractions h

-- .. and no others are one rational. proofs/Rationals shows it.
abbrev pub SameRational : Type 0
SameRational = (x y : Fraction) → (rational x ≡ rational y) ↔ Same x y

-- ---- the operations

infixl 65 ◌+ℚ◌
unfoldable pub ◌+ℚ◌ : ℚ → ℚ → ℚ
unfolding Quotient.lift₂
◌+ℚ◌ =
    Quotient.lift₂ fractions fractions ℚ-set (λ x y. rational (sum x y)) (λ x y x' y' h k. rational_same (sum_same x y
    x' y' h k))

infix 75 -ℚ◌
unfoldable pub -ℚ◌ : ℚ → ℚ
unfolding Quotient.lift
-ℚ◌ = Quotient.lift fractions ℚ-set (λ x. rational (opposite x)) (λ x y h. rational_same (opposite_same x y h))

infixl 70 ◌*ℚ◌
unfoldable pub ◌*ℚ◌ : ℚ → ℚ → ℚ
unfolding Quotient.lift₂
◌*ℚ◌ =
    Quotient.lift₂ fractions fractions ℚ-set (λ x y. rational (product x y)) (λ x y x' y' h k. rational_same
    (product_same x y x' y' h k))

-- 1 / x, and 0 for 0
unfoldable pub inverseℚ : ℚ → ℚ
unfolding Quotient.lift
inverseℚ = Quotient.lift fractions ℚ-set (λ x. rational (reciprocal x)) (λ x y h. rational_same (reciprocal_same x y h))

unfoldable pub sameℚ : ℚ → ℚ → Bool
unfolding Quotient.lift₂
sameℚ = Quotient.lift₂ fractions fractions Bool-set equal equal_same

abbrev pub 0ℚ : ℚ
0ℚ = rational (fraction 0 1 (lit< tt))

abbrev pub 1ℚ : ℚ
1ℚ = rational (fraction 1 1 (lit< tt))

-- Which row is preferred as pivot, and which pivots are refused, is left open.
abbrev pub exact : (ℚ → ℚ → Bool) → (ℚ → Bool) → Arithmetic ℚ
exact prefers refuses = record {
  nought = 0ℚ;
  one = 1ℚ;
  minus = -ℚ◌;
  plus = ◌+ℚ◌;
  less = λ x y. x +ℚ (-ℚ y);
  times = ◌*ℚ◌;
  over = λ x y. x *ℚ inverseℚ y;
  smaller = prefers;
  small = refuses;
  same = sameℚ;
  outside = 0ℚ;
}

-- ---- the value of an f64

-- neither a NaN nor an infinity
abbrev pub Finite : Float → Type 0
Finite nan = ⊥
Finite (inf s) = ⊥
Finite (fin s m e) = Unit {0}

abbrev pub AllFinite : List Float → Type 0
AllFinite [] = Unit {0}
AllFinite (x ∷ l) = Finite x × AllFinite l

-- a / c with its sign
abbrev pub signed : Bool → ℕ → (c : ℕ) → 0 < c → Fraction
signed false a c h = fraction a c h
signed true a c h = opposite (fraction a c h)

-- a finite one is m * 2 ^ e with its sign. A NaN and an infinity have no value, and 0 stands there
unfoldable pub value_of : Float → ℚ
value_of nan = 0ℚ
value_of (inf s) = 0ℚ
value_of (fin s m e) = rational (signed s (m * up e) (down e) (down_pos e))

-- it is the library's value of a finite float. proofs/Image shows it.
abbrev pub ValueIs : Type 0
ValueIs = (x : Float) (s : Bool) (a c : ℕ) (h : 0 < c) → HasValue x s a c → value_of x ≡ rational (signed s a c h)
