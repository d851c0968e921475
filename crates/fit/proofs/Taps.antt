-- `inside` beside `outside`: they part exactly at a NaN. Assumes nothing.
use mathlib.Core.Path.{◌≡◌, refl, sym, ap, ◌∙◌}
use mathlib.Core.Bool.{Bool, true, false, not, ◌&&◌, ◌||◌, true≢false, false≢true}
use Prim.Native.Nat.{ℕ}
use lib.Dec.{T}
use lib.Ieee.{Float, nan, inf, fin, binary64, lt, le, is_nan, of_int}
use lib.Ieee.Bits.{is_false}
use Rattle.float.specs.Floats.{f64}
use Rattle.float.proofs.Numbers.{round_number}
use Rattle.float.proofs.Ordering.{le_is, not_le_nan}
use Rattle.frame.specs.Image.{outside}
use Rattle.sampling.specs.Reading.{inside, sample_at}
use Rattle.fit.specs.Grid.{tap_outside}
use Rattle.fit.specs.Taps.{past, within, nan_alone, OutsideByAnswer, OtherTested}

-- ---- one coordinate

whole_number : (n : ℕ) → T (not (is_nan (f64 n)))
unfolding of_int
whole_number n = round_number binary64 false n 1

-- its four comparisons with a side of n: a number that is not below is as much or above, and a NaN compares false
data Along (n : ℕ) (t : Float) : Type 0 where
  number : is_nan t ≡ false → le (f64 0) t ≡ not (lt t (f64 0)) → le (f64 n) t ≡ not (lt t (f64 n)) → Along n t
  none : is_nan t ≡ true → lt t (f64 0) ≡ false → lt t (f64 n) ≡ false → le (f64 0) t ≡ false → le (f64 n) t ≡ false → Along n t

along : (n : ℕ) (t : Float) → Along n t
unfolding is_nan lt
along n nan = none refl refl refl (is_false _ (not_le_nan (f64 0) nan tt)) (is_false _ (not_le_nan (f64 n) nan tt))
along n (inf s) = number refl (le_is (inf s) (f64 0) tt (whole_number 0)) (le_is (inf s) (f64 n) tt (whole_number n))
along n (fin s m e) = number refl (le_is (fin s m e) (f64 0) tt (whole_number 0)) (le_is (fin s m e) (f64 n) tt (whole_number n))

-- ---- both

or_none : (a : Bool) → (a || false) ≡ a
or_none true = refl
or_none false = refl

module _ (w h : ℕ) (x y : Float) where
  -- the four tests of two numbers
  abbrev a : Bool
  a = lt x (f64 0)

  abbrev b : Bool
  b = lt y (f64 0)

  abbrev c : Bool
  c = lt x (f64 w)

  abbrev d : Bool
  d = lt y (f64 h)

  numbers_out : le (f64 w) x ≡ not c → le (f64 h) y ≡ not d → outside w h x y ≡ (a || b || not c || not d)
  unfolding outside
  numbers_out p q = λ z. a || b || p z || q z

  numbers_in : le (f64 0) x ≡ not a → le (f64 0) y ≡ not b → inside w h x y ≡ (not a && not b && c && d)
  unfolding inside
  numbers_in p q = λ z. p z && q z && c && d

  -- an inside position is not outside
  pub inside_within : inside w h x y ≡ true → outside w h x y ≡ false
  unfolding inside
  inside_within e = go (along w x) (along h y)
    where
      four : (a b c d : Bool) → (not a && not b && c && d) ≡ true → (a || b || not c || not d) ≡ false
      four true b c d e = absurd (false≢true e)
      four false true c d e = absurd (false≢true e)
      four false false true true e = refl
      four false false true false e = absurd (false≢true e)
      four false false false d e = absurd (false≢true e)

      second : (p c d : Bool) → (p && false && c && d) ≡ false
      second true c d = refl
      second false c d = refl

      go : Along w x → Along h y → outside w h x y ≡ false
      go (number n p q) (number m r s) = numbers_out q s ∙ four a b c d (sym (numbers_in p r) ∙ e)
      go (number n p q) (none m r s t u) = absurd (false≢true (sym ((λ z. le (f64 0) x && t z && c && d) ∙ second (le (f64 0) x) c d) ∙ e))
      go (none n p q r s) v = absurd (false≢true (sym (λ z. r z && le (f64 0) y && c && d) ∙ e))

  -- a NaN coordinate: the other one's test is left
  pub nan_across : is_nan x ≡ true → outside w h x y ≡ past h y
  unfolding outside
  nan_across e = go (along w x)
    where
      go : Along w x → outside w h x y ≡ past h y
      go (number n p q) = absurd (false≢true (sym n ∙ e))
      go (none n p q r s) = (λ z. p z || b || s z || le (f64 h) y) ∙ ap (λ t. t || le (f64 h) y) (or_none b)

  pub nan_down : is_nan y ≡ true → outside w h x y ≡ past w x
  unfolding outside
  nan_down e = go (along h y)
    where
      go : Along h y → outside w h x y ≡ past w x
      go (number n p q) = absurd (false≢true (sym n ∙ e))
      go (none n p q r s) =
          (λ z. a || p z || le (f64 w) x || s z) ∙ or_none (a || false || le (f64 w) x) ∙ ap (λ t. t || le (f64 w) x) (or_none a)

  -- two numbers that are not inside
  pub numbers_outside : is_nan x ≡ false → is_nan y ≡ false → inside w h x y ≡ false → outside w h x y ≡ true
  numbers_outside f g e = go (along w x) (along h y)
    where
      four : (a b c d : Bool) → (not a && not b && c && d) ≡ false → (a || b || not c || not d) ≡ true
      four true b c d e = refl
      four false true c d e = refl
      four false false true true e = absurd (true≢false e)
      four false false true false e = refl
      four false false false d e = refl

      go : Along w x → Along h y → outside w h x y ≡ true
      go (number n p q) (number m r s) = numbers_out q s ∙ four a b c d (sym (numbers_in p r) ∙ e)
      go (number n p q) (none m r s t u) = absurd (false≢true (sym g ∙ m))
      go (none n p q r s) v = absurd (false≢true (sym f ∙ n))

-- ---- the order's sentence

past_nan : (n : ℕ) (t : Float) → is_nan t ≡ true → past n t ≡ false
past_nan n t e = go (along n t)
  where
    go : Along n t → past n t ≡ false
    go (number m p q) = absurd (false≢true (sym m ∙ e))
    go (none m p q r s) = λ z. p z || s z

past_within : (n : ℕ) (t : Float) → is_nan t ≡ false → past n t ≡ not (within n t)
past_within n t e = go (along n t)
  where
    two : (a c : Bool) → (a || not c) ≡ not (not a && c)
    two true c = refl
    two false c = refl

    go : Along n t → past n t ≡ not (within n t)
    go (number m p q) = (λ z. lt t (f64 0) || q z) ∙ two (lt t (f64 0)) (lt t (f64 n)) ∙ sym (λ z. not (p z && lt t (f64 n)))
    go (none m p q r s) = absurd (false≢true (sym e ∙ m))

outside_is : (w h : ℕ) (x y : Float) → outside w h x y ≡ (not (inside w h x y) && not (nan_alone w h x y))
unfolding nan_alone
outside_is w h x y = go (is_nan x) (is_nan y) (inside w h x y) refl refl refl
  where
    go : (a b i : Bool) → is_nan x ≡ a → is_nan y ≡ b → inside w h x y ≡ i → outside w h x y ≡ (not i && not ((a && (b || within h y)) || (b && within w x)))
    go a b true e f g = inside_within w h x y g
    go true true false e f g = nan_across w h x y e ∙ past_nan h y f
    go true false false e f g = nan_across w h x y e ∙ past_within h y f ∙ ap not (sym (or_none (within h y)))
    go false true false e f g = nan_down w h x y f ∙ past_within w x e
    go false false false e f g = numbers_outside w h x y e f g

pub outside_by_answer : OutsideByAnswer
unfolding tap_outside sample_at
outside_by_answer img f fit c r i = outside_is img.w img.h _ _

pub other_tested : OtherTested
unfolding tap_outside
other_tested img f fit c r i = (nan_across img.w img.h _ _, nan_down img.w img.h _ _)
