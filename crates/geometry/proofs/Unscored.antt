-- Refusal 16 beside those of `fit_geometry`: a rectification's number is that of the fit, or 16 where there is a fit without a score. Assumes nothing.
use Prim.Native.Nat.{ℕ, ◌≤◌, ◌<◌}
use mathlib.Core.Path.{◌≡◌, refl, sym, subst, ◌∙◌}
use mathlib.Core.Bool.{Bool, true, false, not}
use mathlib.Core.List.{List}
use native.Mathlib.Omega.{arith}
use borrow.Author.Tests.{eqb-true, eqb-false}
use lib.Dec.{T, eqb}
use lib.Ieee.{Float}
use Rattle.frame.specs.Image.{Image}
use Rattle.frame.specs.Refusals.{Check, Lowest, Tested}
use Rattle.frame.specs.Refusals.Lowest.{accepted, refused}
use Rattle.frame.specs.declared.FrameSpec.{FrameSpec}
use Rattle.frame.specs.declared.Quad.{Quad}
use Rattle.frame.proofs.Lowest.{Rising, refuses_where}
use Rattle.candidates.specs.Areas.{Areas}
use Rattle.fiducials.specs.Promises.{MarkedBy}
use Rattle.fiducials.specs.Promises.Undetected.{tested, few, shared, crooked}
use Rattle.fiducials.proofs.Unique.{marked_unique}
use Rattle.fit.specs.declared.Grade.TheVariants.{Score, Outside, TooFew}
use Rattle.search.specs.Stages.{keeps, searched}
use Rattle.search.proofs.Kept.{search_barren}
use Rattle.search.specs.declared.Outcome.{Outcome}
use Rattle.search.specs.declared.Outcome.TheVariants.{NoHomography, Graded}
use Rattle.fit_geometry.specs.Agreement.{SameTests}
use Rattle.fit_geometry.specs.Promises.{Unfitted, undetected, barren}
use Rattle.fit_geometry.proofs.Determined.{Guarding, positive, same_lowest}
use Rattle.geometry.specs.Rectification.{unscored, Unrectified, unfitted, unscored_fit}

-- ---- grades

-- a kept trial that is not unscored has a score
pub score_kept : (o : Outcome) → T (keeps o) → unscored o ≡ false → (s : Float) × (o ≡ Graded (Score s))
unfolding keeps unscored
score_kept NoHomography h e = absurd h
score_kept (Graded (Score s)) h e = (s, refl)
score_kept (Graded (Outside cell)) h e = absurd (subst T e tt)
score_kept (Graded TooFew) h e = absurd (subst T e tt)

-- ---- numbers

module _ (img : Image) (f : FrameSpec) where
  -- those of `fit_geometry`
  pub upto_ten : (t : List Check) → ((j : ℕ) → Tested j t → j ≤ 6) → (n : ℕ) → Unfitted img f t n → n ≤ 10
  upto_ten t most n (undetected (tested x)) = let z = most n x in omega arith
  upto_ten t most n (undetected (few e x)) = omega arith
  upto_ten t most n (undetected (shared e x)) = omega arith
  upto_ten t most n (undetected (crooked e q m x)) = omega arith
  upto_ten t most n (barren e q m b) = omega arith

  unrectified_positive : (t : List Check) → Rising 0 t → (n : ℕ) → Unrectified img f t n → 1 ≤ n
  unrectified_positive t r n (unfitted u) = positive img f t r n u
  unrectified_positive t r n (unscored_fit e q m x) = omega arith

  module _ (t : List Check) (n : ℕ) where
    -- except by 16 the number is that of the fit
    pub as_fit : (n ≡ 16 → ⊥) → Lowest (Unrectified img f t) n → Lowest (Unfitted img f t) n
    as_fit h (accepted e g) = accepted e (λ k u. g k (unfitted u))
    as_fit h (refused (unfitted u) g) = refused u (λ k l v. g k l (unfitted v))
    as_fit h (refused (unscored_fit e q m x) g) = absurd (h e)

    -- by 16 there is a fit
    has_fit : ((j : ℕ) → Tested j t → j ≤ 6) → n ≡ 16 → Lowest (Unrectified img f t) n → Lowest (Unfitted img f t) 0
    has_fit most z (accepted e g) = absurd (omega arith)
    has_fit most z (refused c g) = accepted refl (λ k u. let x : k ≤ 10 = upto_ten t most k u in g k (omega arith) (unfitted u))

    -- .. and a card without a score
    pub unscored_card : ((j : ℕ) → Tested j t → j ≤ 6) → n ≡ 16 → Lowest (Unrectified img f t) n → (q : Quad) × (MarkedBy img f q × T (unscored (searched img f q).kept))
    unscored_card most z (accepted e g) = absurd (omega arith)
    unscored_card most z (refused (unfitted u) g) = absurd (let x : n ≤ 10 = upto_ten t most n u in omega arith)
    unscored_card most z (refused (unscored_fit e q m x) g) = (q, (m, x))

    -- a fit that is refused leaves its number
    pub refused_fit : ((j : ℕ) → Tested j t → j ≤ 6) → 1 ≤ n → Lowest (Unfitted img f t) n → Lowest (Unrectified img f t) n
    refused_fit most h (accepted e g) = absurd (omega arith)
    refused_fit most h (refused u g) = refused (unfitted u) lower
      where
        lower : (k : ℕ) → k < n → Unrectified img f t k → ⊥
        lower k l (unfitted v) = g k l v
        lower k l (unscored_fit e q m x) = let y : n ≤ 10 = upto_ten t most n u in omega arith

  module _ (t : List Check) (r : Rising 0 t) (n : ℕ) (z : n ≡ 0) (l : Lowest (Unfitted img f t) n) (q : Quad) (m : MarkedBy img f q) where
    none : (k : ℕ) → Unfitted img f t k → ⊥
    none k u = let y : 1 ≤ n = refuses_where (Unfitted img f t) (positive img f t r) n k l u in omega arith

    -- a search that has a fit keeps a trial
    pub keeps_one : T (keeps (searched img f q).kept)
    keeps_one = go (keeps (searched img f q).kept) refl
      where
        go : (b : Bool) → keeps (searched img f q).kept ≡ b → T (keeps (searched img f q).kept)
        go true e = subst T (sym e) tt
        go false e = absurd (none 10 (barren refl q m (search_barren img f q (subst (λ b. T (not b)) (sym e) tt))))

    -- a fit with a score is accepted, one without refused by 16
    pub scored_fit_lem : unscored (searched img f q).kept ≡ false → Lowest (Unrectified img f t) 0
    scored_fit_lem s = accepted refl lower
      where
        lower : (k : ℕ) → Unrectified img f t k → ⊥
        lower k (unfitted u) = none k u
        lower k (unscored_fit e p o x) = subst T s (subst (λ (y : Quad). T (unscored (searched img f y).kept)) (marked_unique img f p q o m) x)

    pub unscored_fit_lem : T (unscored (searched img f q).kept) → Lowest (Unrectified img f t) 16
    unscored_fit_lem s = refused (unscored_fit refl q m s) lower
      where
        lower : (k : ℕ) → k < 16 → Unrectified img f t k → ⊥
        lower k h (unfitted u) = none k u
        lower k h (unscored_fit e p o x) = omega arith

  -- ---- the tests that two calls make do not tell them apart

  -- one is not refused by 16 where the other is
  apart : {a a' : Areas} (t t' : List Check) → Guarding img f a t → Guarding img f a' t' → SameTests t t' → (n n' : ℕ)
      → Lowest (Unrectified img f t) n → Lowest (Unrectified img f t') n' → (n ≡ 16 → ⊥) → n' ≡ 16 → ⊥
  apart t t' g g' e n n' l l' h z =
      let x : n ≡ 0 = same_lowest img f t t' g g' e n 0 (as_fit t n h l) (has_fit t' n' g'.most z l') in
      let c = unscored_card t' n' g'.most z l' in
      let y : 1 ≤ n = refuses_where (Unrectified img f t) (unrectified_positive t g.rises) n 16 l (unscored_fit refl c.0 c.1.0 c.1.1) in
      omega arith

  pub same_unrectified : {a a' : Areas} (t t' : List Check) → Guarding img f a t → Guarding img f a' t' → SameTests t t' → (n n' : ℕ)
      → Lowest (Unrectified img f t) n → Lowest (Unrectified img f t') n' → n ≡ n'
  same_unrectified t t' g g' e n n' l l' = go (eqb n 16) (eqb n' 16) refl refl
    where
      go : (b b' : Bool) → eqb n 16 ≡ b → eqb n' 16 ≡ b' → n ≡ n'
      go true true x x' = eqb-true n 16 x ∙ sym (eqb-true n' 16 x')
      go true false x x' = absurd (apart t' t g' g (sym e) n' n l' l (eqb-false n' 16 x') (eqb-true n 16 x))
      go false true x x' = absurd (apart t t' g g' e n n' l l' (eqb-false n 16 x) (eqb-true n' 16 x'))
      go false false x x' = same_lowest img f t t' g g' e n n' (as_fit t n (eqb-false n 16 x) l) (as_fit t' n' (eqb-false n' 16 x') l')
