-- Numbers with their operations, so that the equations, the elimination and the matrix products are written once: over
-- f64, as the code computes, and over exact numbers. Assumes nothing.
use Rattle.std.specs.Prelude.{◌≡◌, Bool, true, Float}
use Rattle.std.specs.Float.{nan}
use Rattle.std.specs.Float.Ieee.{neg, lt, eq}
use Rattle.float.specs.Floats.{◌⊕◌, ◌⊖◌, ◌⊗◌, ◌⊘◌, f64, tiny, abs_of}

pub record Arithmetic (A : Type 0) : Type 0 where
  pub nought : A
  pub one : A
  pub minus : A → A
  pub plus : A → A → A
  pub less : A → A → A
  pub times : A → A → A
  pub over : A → A → A
  -- |x| < |y|
  pub smaller : A → A → Bool
  -- |x| < 1e-12
  pub small : A → Bool
  -- x = y
  pub same : A → A → Bool
  -- what is read outside a list
  pub outside : A

-- f64: every result is rounded
abbrev pub rounded : Arithmetic Float
rounded = record {
  nought = f64 0;
  one = f64 1;
  minus = neg;
  plus = ◌⊕◌;
  less = ◌⊖◌;
  times = ◌⊗◌;
  over = ◌⊘◌;
  smaller = λ x y. lt (abs_of x) (abs_of y);
  small = λ x. lt (abs_of x) tiny;
  same = eq;
  outside = nan;
}

-- Exact numbers, in which no result is rounded: the laws of a commutative ring
pub record CommutativeRing {A : Type 0} (N : Arithmetic A) : Type 0 where
  pub plus_assoc : (a b c : A) → N.plus (N.plus a b) c ≡ N.plus a (N.plus b c)
  pub plus_comm : (a b : A) → N.plus a b ≡ N.plus b a
  pub plus_nought : (a : A) → N.plus a N.nought ≡ a
  pub plus_minus : (a : A) → N.plus a (N.minus a) ≡ N.nought
  pub times_assoc : (a b c : A) → N.times (N.times a b) c ≡ N.times a (N.times b c)
  pub times_comm : (a b : A) → N.times a b ≡ N.times b a
  pub times_one : (a : A) → N.times a N.one ≡ a
  pub times_plus : (a b c : A) → N.times a (N.plus b c) ≡ N.plus (N.times a b) (N.times a c)

-- .. and of a field, whose 0 is refused as a pivot and is the only number that equals 0
pub record Field {A : Type 0} (N : Arithmetic A) : Type 0 where
  pub ring : CommutativeRing N
  pub less_is : (a b : A) → N.less a b ≡ N.plus a (N.minus b)
  pub over_times : (a b : A) → ¬ (b ≡ N.nought) → N.times (N.over a b) b ≡ a
  pub nought_small : N.small N.nought ≡ true
  pub same_is : (a b : A) → N.same a b ≡ true → a ≡ b
