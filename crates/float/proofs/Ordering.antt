-- The order of floats, from std's laws of it: `lt` of `lib.Ieee` is a strict weak order on what is not a NaN. Assumes nothing.
use Rattle.std.proofs.Common.{◌≡◌, ℕ, ◌*◌, Bool, true, false, not, T, ltb, sym, refl, ap, subst, add_comm, T_not}
use lib.Dec.{not_T}
use lib.Ieee.{Float, nan, inf, fin, up, down, below, lt, le, neg, is_nan}
use lib.Ieee.Bits.{is_true, is_false}
use Rattle.std.specs.Float.Order

left_number : (a b : Float) → T (lt a b) → T (not (is_nan a))
left_number a b h = Order.le_left a b (Order.le_of_lt a b h)

right_number : (a b : Float) → T (lt a b) → T (not (is_nan b))
right_number a b h = Order.le_right a b (Order.le_of_lt a b h)

-- from a < b and not c < b follows a < c, where c is a number
pub lt_step : (a b c : Float) → T (lt a b) → T (not (lt c b)) → T (not (is_nan c)) → T (lt a c)
lt_step a b c h k n = Order.lt_of_lt_of_le a b c h (Order.le_of_not-lt c b n (right_number a b h) k)

-- from not b < a and b < c follows a < c, where a is a number
pub step_lt : (a b c : Float) → T (not (lt b a)) → T (lt b c) → T (not (is_nan a)) → T (lt a c)
step_lt a b c h k n = Order.lt_of_le_of_lt a b c (Order.le_of_not-lt b a (left_number b c k) n h) k

-- what is less is neither as much nor more
pub lt_not_le : (a b : Float) → T (lt a b) → T (not (le b a))
lt_not_le a b h = not_T (le b a) (λ l. Order.lt_irrefl a (Order.lt_of_lt_of_le a b a h l))

-- .. and what is not less is as much or more, where both are numbers
pub le_is : (a b : Float) → T (not (is_nan a)) → T (not (is_nan b)) → le b a ≡ not (lt a b)
le_is a b n k = go (lt a b) refl
  where
    go : (t : Bool) → lt a b ≡ t → le b a ≡ not t
    go true x = is_false _ (lt_not_le a b (subst T (sym x) tt))
    go false x = is_true _ (Order.le_of_not-lt a b n k (subst (λ t. T (not t)) (sym x) tt))

-- to change every sign turns the order round
below_neg : (s t : Bool) (p q : ℕ) → below (not t) q (not s) p ≡ below s p t q
below_neg false false p q = refl
below_neg false true p q = refl
below_neg true false p q = ap (ltb 0) (add_comm q p)
below_neg true true p q = refl

pub lt_neg : (a b : Float) → lt (neg b) (neg a) ≡ lt a b
unfolding lt neg
lt_neg nan nan = refl
lt_neg nan (inf t) = refl
lt_neg nan (fin t n d) = refl
lt_neg (inf s) nan = refl
lt_neg (inf true) (inf true) = refl
lt_neg (inf true) (inf false) = refl
lt_neg (inf false) (inf true) = refl
lt_neg (inf false) (inf false) = refl
lt_neg (inf true) (fin t n d) = refl
lt_neg (inf false) (fin t n d) = refl
lt_neg (fin s m e) nan = refl
lt_neg (fin s m e) (inf true) = refl
lt_neg (fin s m e) (inf false) = refl
lt_neg (fin s m e) (fin t n d) = below_neg s t (m * up e * down d) (n * up d * down e)

pub lt_irrefl : (a : Float) → T (not (lt a a))
lt_irrefl a = not_T (lt a a) (Order.lt_irrefl a)

pub lt_trans : (a b c : Float) → T (lt a b) → T (lt b c) → T (lt a c)
lt_trans = Order.lt_trans

pub not_le_nan : (a b : Float) → T (is_nan b) → T (not (le a b))
not_le_nan a b n = not_T (le a b) (λ h. T_not (is_nan b) (Order.le_right a b h) n)
