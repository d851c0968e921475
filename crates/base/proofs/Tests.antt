-- Tests on Bool and ℕ: what a test says of its parts, and a test and its negation, by `≡` and by `T`. Assumes nothing.
use Prim.Native.Nat.{ℕ}
use mathlib.Core.Path.{◌≡◌, refl, sym, subst}
use mathlib.Core.Bool.{Bool, true, false, not, cond, ◌&&◌, ◌||◌}
use mathlib.Core.Logic.{◌⊎◌, inl, inr}
use lib.Dec.{T, eqb, eqb→eq, not_T}

-- ---- both
pub and_left : (a b : Bool) → a && b ≡ true → a ≡ true
and_left true b e = refl
and_left false b e = e

pub and_right : (a b : Bool) → a && b ≡ true → b ≡ true
and_right true b e = e
and_right false b e = absurd (subst T (sym e) tt)

pub and_both : (a b : Bool) → a ≡ true → b ≡ true → a && b ≡ true
and_both a b e d = rw e d

-- not both, where the first or the second fails
pub not_first : {a : Bool} (b : Bool) → a ≡ false → a && b ≡ false
not_first b e = rw e

pub not_second : (a : Bool) {b : Bool} → b ≡ false → a && b ≡ false
not_second true e = e
not_second false e = refl

-- ---- one of two
pub or_left : (a b : Bool) → a || b ≡ false → a ≡ false
or_left true b e = e
or_left false b e = refl

pub or_right : (a b : Bool) → a || b ≡ false → b ≡ false
or_right true b e = absurd (subst T e tt)
or_right false b e = e

pub or_neither : (a b : Bool) → a ≡ false → b ≡ false → a || b ≡ false
or_neither a b e d = rw e d

pub or_cases : (a b : Bool) → a || b ≡ true → (a ≡ true) ⊎ (b ≡ true)
or_cases true b e = inl refl
or_cases false b e = inr e

pub or_first : (a b : Bool) → a ≡ true → a || b ≡ true
or_first a b e = rw e

pub or_second : (a b : Bool) → b ≡ true → a || b ≡ true
or_second true b e = refl
or_second false b e = e

-- not both
pub or_nots : (a b : Bool) → (not a || not b) ≡ not (a && b)
or_nots true b = refl
or_nots false b = refl

-- ---- a test holds or fails
pub either : (t : Bool) → (t ≡ true) ⊎ (t ≡ false)
either true = inl refl
either false = inr refl

-- two tests that hold together are one
pub same_test : (a b : Bool) → (a ≡ true → b ≡ true) → (b ≡ true → a ≡ true) → a ≡ b
same_test true b f g = sym (f refl)
same_test false true f g = g refl
same_test false false f g = refl

-- the same choice under two tests, one over the other
pub cond_or : {A : Type 0} (t s : Bool) (x y : A) → cond t x (cond s x y) ≡ cond (t || s) x y
cond_or true s x y = refl
cond_or false s x y = refl

-- ---- by `T`
pub holds : {b : Bool} → b ≡ true → T b
holds e = subst T (sym e) tt

pub holds_not : {b : Bool} → b ≡ false → T (not b)
holds_not e = subst (λ z. T (not z)) (sym e) tt

pub fails : (b : Bool) → (T b → ⊥) → b ≡ false
fails true h = absurd (h tt)
fails false h = refl

pub refuted : (b : Bool) → b ≡ false → T b → ⊥
refuted b e t = subst T e t

pub no_eq : (a b : ℕ) → (a ≡ b → ⊥) → T (not (eqb a b))
no_eq a b h = not_T (eqb a b) (λ t. h (eqb→eq a b t))

pub nor : (a b : Bool) → T (not a) → T (not b) → T (not (a || b))
nor true b p q = p
nor false b p q = q

pub nor_left : (a b : Bool) → T (not (a || b)) → T (not a)
nor_left true b p = p
nor_left false b p = tt

pub nand : (a b : Bool) → T (not a) → T (not (a && b))
nand true b p = absurd p
nand false b p = tt

pub or_l : (a b : Bool) → T a → T (a || b)
or_l true b t = tt
or_l false b t = absurd t

pub or_r : (a b : Bool) → T b → T (a || b)
or_r true b t = tt
or_r false b t = t

pub or_either : (a b : Bool) → T (a || b) → T a ⊎ T b
or_either true b t = inl tt
or_either false b t = inr t
