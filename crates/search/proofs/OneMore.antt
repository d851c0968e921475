-- The trial that a stage keeps, with one trial more; NaN included. Assumes nothing.
use mathlib.Core.Path.{◌≡◌, refl, sym, ap, subst, ◌∙◌}
use mathlib.Core.Bool.{Bool, true, false, not, cond}
use mathlib.Core.Logic.{⊎_elim}
use Prim.Native.Nat.{ℕ, suc, ◌<◌}
use native.Mathlib.Omega.{arith}
use lib.Dec.{T, T_not, not_T}
use lib.Ieee.{lt, le, is_nan}
use Rattle.fit.specs.declared.GeometryFit.{GeometryFit}
use Rattle.fit.specs.declared.Grade.{Grade}
use Rattle.search.specs.declared.Outcome.{Outcome}
use Rattle.search.specs.declared.Outcome.TheVariants.{NoHomography, Graded}
use Rattle.search.specs.declared.Stage.{Stage}
use Rattle.base.proofs.Arith.{last_or}
use Rattle.fit.specs.Grid.{score_of}
use Rattle.search.specs.Stages.{takes, stays, staged, replaces, more, as_much}
use Rattle.float.proofs.Ordering.{step_lt, lt_trans, lt_irrefl, lt_not_le, not_le_nan}

-- trial e of the first n, with outcomes o and fits t, is the one that the stage s keeps; or none of them has a homography
pub data Keeps (o : ℕ → Outcome) (t : ℕ → GeometryFit) (n : ℕ) (s : Stage) : Type 0 where
  none : s.kept ≡ NoHomography → ((i : ℕ) → i < n → o i ≡ NoHomography) → Keeps o t n s
  some : (e : ℕ) (g : Grade) → e < n → o e ≡ Graded g → s.kept ≡ Graded g → s.fit ≡ t e
      → ((i : ℕ) → i < n → T (not (more (o i) (Graded g)))) → ((i : ℕ) → i < e → T (not (as_much (o i) (Graded g)))) → Keeps o t n s

-- a trial without homography has no score
no_more : (g : Grade) → T (not (more NoHomography (Graded g)))
unfolding more
no_more g = tt

no_as_much : (g : Grade) → T (not (as_much NoHomography (Graded g)))
unfolding as_much
no_as_much g = tt

-- what was no more than b is less than what is more than b
passed_more : (x : Outcome) (b g : Grade) → T (not (more x (Graded b))) → T (lt (score_of b) (score_of g)) → T (not (more x (Graded g)))
unfolding more
passed_more NoHomography b g h k = tt
passed_more (Graded a) b g h k = not_T (lt (score_of g) (score_of a)) (λ l. T_not (lt (score_of b) (score_of a)) h (lt_trans (score_of b) (score_of g) (score_of a) k l))

passed_as_much : (x : Outcome) (b g : Grade) → T (not (more x (Graded b))) → T (lt (score_of b) (score_of g)) → T (not (as_much x (Graded g)))
unfolding more as_much
passed_as_much NoHomography b g h k = tt
passed_as_much (Graded a) b g h k =
    go (is_nan (score_of a)) (λ n. not_le_nan (score_of g) (score_of a) n)
    (λ n. lt_not_le (score_of a) (score_of g) (step_lt (score_of a) (score_of b) (score_of g) h k n))
  where
    go : (n : Bool) → (T n → T (not (le (score_of g) (score_of a)))) → (T (not n) → T (not (le (score_of g) (score_of a)))) → T (not (le (score_of g) (score_of a)))
    go true p q = p tt
    go false p q = q tt

self_more : (g : Grade) → T (not (more (Graded g) (Graded g)))
unfolding more
self_more g = lt_irrefl (score_of g)

not_more : (b g : Grade) → T (not (lt (score_of g) (score_of b))) → T (not (more (Graded b) (Graded g)))
unfolding more
not_more b g h = h

module _ (c : ℕ → ℕ) (o : ℕ → Outcome) (t : ℕ → GeometryFit) where
  -- one more trial, by its outcome x
  pub one_more : (n : ℕ) (s : Stage) (x : Outcome) → o n ≡ x → Keeps o t n s → Keeps o t (suc n) (staged (c n) x (t n) s)
  unfolding staged
  one_more n s NoHomography e (none k f) = none k (λ i h. ⊎_elim (λ p. ap o p ∙ e) (λ l. f i l) (last_or i n h))
  one_more n s NoHomography e (some a g l p k q m u) =
      some a g (omega arith) p k q
      (λ i h. ⊎_elim (λ w. subst (λ y. T (not (more y (Graded g)))) (sym (ap o w ∙ e)) (no_more g)) (λ w. m i w) (last_or i n h)) u
  one_more n s (Graded b) e (none k f) =
      subst (λ z. Keeps o t (suc n) z) (sym (taken s.kept k))
      (some n b (omega arith) e refl refl
      (λ i h. ⊎_elim (λ w. subst (λ y. T (not (more y (Graded b)))) (sym (ap o w ∙ e)) (self_more b)) (λ w. subst
      (λ y. T (not (more y (Graded b)))) (sym (f i w)) (no_more b)) (last_or i n h))
      (λ i h. subst (λ y. T (not (as_much y (Graded b)))) (sym (f i h)) (no_as_much b)))
    where
      taken : (y : Outcome) → y ≡ NoHomography → cond (replaces y b) (takes (c n) b (t n) s) (stays (c n) s) ≡ takes (c n) b (t n) s
      taken y e = ap (λ z. cond (replaces z b) (takes (c n) b (t n) s) (stays (c n) s)) e ∙ always
        where
          always : cond (replaces NoHomography b) (takes (c n) b (t n) s) (stays (c n) s) ≡ takes (c n) b (t n) s
          always = unfold replaces in refl
  one_more n s (Graded b) e (some a g l p k q m u) = go (replaces s.kept b) refl
    where
      test : replaces s.kept b ≡ lt (score_of g) (score_of b)
      test = ap (λ z. replaces z b) k ∙ by_score
        where
          by_score : replaces (Graded g) b ≡ lt (score_of g) (score_of b)
          by_score = unfold replaces in refl

      beaten : (w : Bool) → replaces s.kept b ≡ w → lt (score_of g) (score_of b) ≡ w
      beaten w r = sym test ∙ r

      go : (w : Bool) → replaces s.kept b ≡ w
          → Keeps o t (suc n) (cond w (takes (c n) b (t n) s) (stays (c n) s))
      go true r =
          let w : T (lt (score_of g) (score_of b)) = subst T (sym (beaten true r)) tt in
          some n b (omega arith) e refl refl
          (λ i h. ⊎_elim (λ v. subst (λ y. T (not (more y (Graded b)))) (sym (ap o v ∙ e)) (self_more b)) (λ v. passed_more (o i) g b (m i v) w) (last_or i n h))
          (λ i h. passed_as_much (o i) g b (m i h) w)
      go false r =
          let w : T (not (lt (score_of g) (score_of b))) = subst (λ z. T (not z)) (sym (beaten false r)) tt in
          some a g (omega arith) p k q
          (λ i h. ⊎_elim (λ v. subst (λ y. T (not (more y (Graded g)))) (sym (ap o v ∙ e)) (not_more b g w)) (λ v. m i v) (last_or i n h)) u
