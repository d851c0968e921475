-- The lens terms of a stage: around a finite centre they are finite, none is −0, and so those that compare as equal are the same. Assumes nothing.
use mathlib.Core.Path.{◌≡◌, refl, sym, ap, subst, ◌∙◌}
use mathlib.Core.Bool.{Bool, true, false, not, cond}
use Prim.Native.Nat.{ℕ, zero, suc, ◌<◌, ◌≤◌, ◌^◌}
use native.Mathlib.Nat.{le_trans, le_of_lt}
use native.Mathlib.Omega.{arith}
use lib.Dec.{T, lit≤, lit<}
use lib.Ieee.{Float, nan, fin, binary64, round, neg, lt, eq, ne, fits, is_nan}
use lib.Ieee.Compare.{differs_from_itself}
use lib.Ieee.Fits.{add-fits, sub-fits, mul-fits, neg-fits, round-fits}
use Rattle.base.specs.Loops.{every}
use Rattle.base.proofs.Every.{every_begin}
use Rattle.base.proofs.Tests.{holds_not}
use Rattle.float.specs.Floats.{◌⊕◌, ◌⊖◌, ◌⊗◌, f64, d64, clamp_of}
use Rattle.float.proofs.Numbers.{Small, small, Finite, finite, decimal_small, whole_small, product_small, small_finite, minus_number, sum_not_nan, clamp_finite}
use Rattle.float.proofs.Same.{is_minus_zero, eq_same, sum_not_minus_zero}
use Rattle.search.specs.Stages.{k_max, span, step, k_at, fresh}

-- ---- half span and step
span_small : (j : ℕ) → Small 1 (span j)
unfolding span
span_small zero = decimal_small 20 100 (lit< tt) (lit≤ tt)
span_small (suc zero) = decimal_small 12 1000 (lit< tt) (lit≤ tt)
span_small (suc (suc j)) = decimal_small 15 10000 (lit< tt) (lit≤ tt)

step_small : (j : ℕ) → Small 1 (step j)
unfolding step
step_small zero = decimal_small 10 1000 (lit< tt) (lit≤ tt)
step_small (suc zero) = decimal_small 12 10000 (lit< tt) (lit≤ tt)
step_small (suc (suc j)) = decimal_small 2 10000 (lit< tt) (lit≤ tt)

-- ---- the ends of the clamp
end_finite : Finite k_max
end_finite = small_finite (decimal_small 20 100 (lit< tt) (lit≤ tt))

low_finite : Finite (neg k_max)
low_finite = go end_finite
  where
    go : Finite k_max → Finite (neg k_max)
    go (finite s m e p) = finite (not s) m e (ap neg p ∙ (unfold neg in refl))

ends_not_minus_zero : T (not (is_minus_zero k_max)) × T (not (is_minus_zero (neg k_max)))
unfolding d64 round neg is_minus_zero
ends_not_minus_zero = (tt, tt)

end_fits : T (fits binary64 k_max)
unfolding d64
end_fits = round-fits binary64 false 20 100

-- what holds of both ends and of what is clamped holds after clamping
clamped : (P : Float → Type 0) (lo hi x : Float) → P lo → P hi → P x → P (clamp_of lo hi x)
unfolding clamp_of
clamped P lo hi x a b c = go (lt x lo) (lt hi x)
  where
    go : (s t : Bool) → P (cond s lo (cond t hi x))
    go true t = a
    go false true = b
    go false false = c

-- ---- the terms
module _ (j : ℕ) (center : Float) (i : ℕ) where
  term_fits : T (fits binary64 (k_at j center i))
  unfolding k_at
  term_fits = clamped (λ x. T (fits binary64 x)) (neg k_max) k_max _ (neg-fits binary64 k_max end_fits) end_fits (add-fits binary64 (center ⊖ span j) (step j ⊗ f64 i))

  module _ (held : i < 41) where
    offset : Small (2 ^ 60) (step j ⊗ f64 i)
    offset = product_small (step j) (f64 i) (step_small j) (whole_small i (le_trans (le_of_lt held) (lit≤ tt)))

    term_not_minus_zero : T (not (is_minus_zero (k_at j center i)))
    unfolding k_at
    term_not_minus_zero = clamped (λ x. T (not (is_minus_zero x))) (neg k_max) k_max _ ends_not_minus_zero.1 ends_not_minus_zero.0 (go offset)
      where
        go : Small (2 ^ 60) (step j ⊗ f64 i) → T (not (is_minus_zero (center ⊖ span j ⊕ step j ⊗ f64 i)))
        go (small m e p h) =
            subst (λ x. T (not (is_minus_zero (center ⊖ span j ⊕ x)))) (sym p)
            (sum_not_minus_zero (center ⊖ span j) m e (sub-fits binary64 center (span j)) (subst (λ x. T (fits binary64 x)) p (mul-fits binary64 (step j) (f64 i))))

    pub term_finite : Finite center → Finite (k_at j center i)
    unfolding k_at
    term_finite f =
        clamp_finite (neg k_max) k_max (center ⊖ span j ⊕ step j ⊗ f64 i) low_finite end_finite
        (sum_not_nan (center ⊖ span j) (step j ⊗ f64 i) (minus_number center (span j) f (small_finite (span_small j))) (small_finite offset))

-- terms compare as equal exactly where they are the same
pub term_same : (j : ℕ) (center : Float) (i l : ℕ) → i < 41 → l < 41 → T (eq (k_at j center i) (k_at j center l)) → k_at j center i ≡ k_at j center l
term_same j center i l a b h =
    eq_same binary64 (k_at j center i) (k_at j center l) (term_fits j center i) (term_fits j center l) (term_not_minus_zero j center i a) (term_not_minus_zero j center l b) h

finite_equal : (x : Float) → Finite x → eq x x ≡ false → ⊥
finite_equal x (finite s m e p) h = absurd (number (sym (differs_from_itself x (unfold ne in holds_not h)) ∙ p))
  where
    number : nan ≡ fin s m e → ⊥
    number n = unfold is_nan in subst (λ y. T (is_nan y)) n tt

pub term_apart : (j : ℕ) (center : Float) (i l : ℕ) → i < 41 → Finite center → eq (k_at j center i) (k_at j center l) ≡ false → k_at j center i ≡ k_at j center l → ⊥
term_apart j center i l a f h e = finite_equal (k_at j center i) (term_finite j center i a f) (ap (eq (k_at j center i)) e ∙ h)

-- ---- what an entry adds to the counts
pub fresh_most : (j : ℕ) (center : Float) (i : ℕ) → fresh j center i ≤ 1
unfolding fresh
fresh_most j center i = go (every i (λ l. not (eq (k_at j center l) (k_at j center i))))
  where
    go : (b : Bool) → cond b 1 0 ≤ 1
    go true = omega arith
    go false = omega arith

-- the first entry of a stage repeats none
pub fresh_first : (j : ℕ) (center : Float) → fresh j center 0 ≡ 1
unfolding fresh
fresh_first j center = ap (λ b. cond b 1 0) (every_begin _)
