-- The counts of a search: the sums, what they mean, and that nothing is kept by them. Assumes nothing.
use mathlib.Core.Path.{◌≡◌, refl, sym, ap, subst, ◌∙◌}
use mathlib.Core.Bool.{Bool, true, false, not, cond}
use mathlib.Core.Logic.{⊎_elim}
use Prim.Native.Nat.{ℕ, zero, suc, ◌+◌, ◌≤◌, ◌<◌}
use native.Mathlib.Nat.{le_antisymm}
use native.Mathlib.Omega.{arith}
use lib.Dec.{T, ltb}
use lib.Ieee.{Float, of_int, to_unsigned, add, sub, mul, div, neg, lt, eq, round}
use borrow.Author.Tests.{lt-ltb, le-ltb, not-true, not-false}
use Rattle.base.specs.Loops.{turns, every}
use Rattle.base.proofs.Arith.{last_or}
use Rattle.base.proofs.Enumerations.{each_own}
use Rattle.base.proofs.Every.{every_one, every_fails}
use Rattle.base.proofs.Pick.{pick_yes, pick_no}
use Rattle.float.specs.Floats.{f64, d64, clamp_of, round_of}
use Rattle.float.proofs.Numbers.{Finite, whole_small, small_finite}
use Rattle.frame.specs.Image.{Image}
use Rattle.frame.specs.declared.FrameSpec.{FrameSpec}
use Rattle.frame.specs.declared.Quad.{Quad}
use Rattle.radial.specs.Lens.{radial}
use Rattle.fit.specs.Fits.{fits_for, fit_for}
use Rattle.fit.specs.Grid.{grade_of}
use Rattle.fit.specs.declared.GeometryFit.{GeometryFit}
use Rattle.fit.specs.declared.Grade.{Grade}
use Rattle.search.specs.declared.Outcome.{Outcome}
use Rattle.search.specs.declared.Outcome.TheVariants.{NoHomography, Graded}
use Rattle.search.specs.declared.Stage.{Stage}
use Rattle.search.specs.Stages.{span, step, entries, k_at, fresh, outcome_of, replaces, takes, stays, staged, begun, stage_from, on_kept, next_stage, first_stage, second_stage, searched}
use Rattle.search.specs.Stages.{second_center, last_center}
use Rattle.search.specs.Counts.{total, different, mapped, Different, OneNumber, StageCounts, Counts, EndsRepeat, stage_by, next_by, searched_by, KeptAlone}
use Rattle.search.proofs.Cases.{mapped_by, staged_counts}
use Rattle.search.proofs.Entries.{stage_lengths}
use Rattle.search.proofs.Kept.{stage_best}
use Rattle.search.proofs.Terms.{term_same, term_apart, term_finite, fresh_most, fresh_first}

-- ---- sums
total_most : (c : ℕ → ℕ) (n : ℕ) → ((i : ℕ) → c i ≤ 1) → total c n ≤ n
unfolding total
total_most c zero h = omega arith
total_most c (suc n) h = omega (arith, total_most c n h, h n)

total_some : (c : ℕ → ℕ) (n : ℕ) → c 0 ≡ 1 → 1 ≤ total c (suc n)
unfolding total
total_some c zero e = omega arith
total_some c (suc n) e = omega (arith, total_some c n e)

-- ---- by meaning

-- the terms of n entries, of which p chooses: an entry adds 1 where it is chosen and no earlier one, chosen or not, has a term that compares as equal
module _ (term : ℕ → Float) (p : ℕ → Bool) (most : ℕ)
    (same : (i l : ℕ) → i < most → l < most → T (eq (term i) (term l)) → term i ≡ term l)
    (other : (i l : ℕ) → i < most → eq (term i) (term l) ≡ false → term i ≡ term l → ⊥)
    (alike : (i l : ℕ) → term i ≡ term l → p i ≡ p l) where
  abbrev new : ℕ → Bool
  new i = every i (λ l. not (eq (term l) (term i)))

  abbrev Chosen : ℕ → ℕ → Type 0
  Chosen n k = Different term p n k

  -- one entry more that adds nothing: it is not chosen, or its term is represented
  known : (n k : ℕ) (d : Chosen n k) → (T (p n) → (i : ℕ) × (i < k) × (term (d.representative i) ≡ term n)) → Chosen (suc n) k
  known n k d h = record {
    representative = d.representative;
    within = λ i l. (omega (arith, (d.within i l).0), (d.within i l).1);
    apart = d.apart;
    every = λ e l c. ⊎_elim
        (λ x. let r = h (subst (λ z. T (p z)) x c) in (r.0, r.1, r.2 ∙ ap term (sym x)))
        (λ x. d.every e x c)
        (last_or e n l);
  }

  -- .. one that is chosen, and whose term is another than all before: it represents itself
  another : (n k : ℕ) → Chosen n k → T (p n) → ((l : ℕ) → l < n → term l ≡ term n → ⊥) → Chosen (suc n) (k + 1)
  another n k d c far = record {
    representative = more;
    within = λ i l. ⊎_elim
        (λ e. subst (λ z. (z < suc n) × T (p z)) (sym (at_end i e)) (omega arith, c))
        (λ h. subst (λ z. (z < suc n) × T (p z)) (sym (before i h)) (omega (arith, (d.within i h).0), (d.within i h).1))
        (last_or i k (omega arith));
    apart = λ i l h m e. ⊎_elim
        (λ x.
        let g : i < k = omega arith in
        far (d.representative i) (d.within i g).0 (ap term (sym (before i g)) ∙ e ∙ ap term (at_end l x)))
        (λ x.
        let g : i < k = omega arith in
        d.apart i l h x (ap term (sym (before i g)) ∙ e ∙ ap term (before l x)))
        (last_or l k (omega arith));
    every = λ e l b. ⊎_elim
        (λ x. (k, omega arith, ap term (at_end k refl ∙ sym x)))
        (λ x. let r = d.every e x b in (r.0, omega (arith, r.1), ap term (before r.0 r.1) ∙ r.2))
        (last_or e n l);
  }
    where
      more : ℕ → ℕ
      more i = cond (ltb i k) (d.representative i) n

      before : (i : ℕ) → i < k → more i ≡ d.representative i
      before i h = sym (pick_yes _ _ _ (lt-ltb i k h))

      at_end : (i : ℕ) → i ≡ k → more i ≡ n
      at_end i e = sym (pick_no _ _ _ (le-ltb i k (omega arith)))

  counts_different : (n : ℕ) → n ≤ most → Chosen n (total (λ i. cond (p i) (cond (new i) 1 0) 0) n)
  unfolding total
  counts_different zero h = record {
    representative = λ i. 0;
    within = λ i l. absurd (omega arith);
    apart = λ i l a b. absurd (omega arith);
    every = λ e l. absurd (omega arith);
  }
  counts_different (suc n) h = go (total (λ i. cond (p i) (cond (new i) 1 0) 0) n) (counts_different n (omega arith)) (p n) refl (new n) refl
    where
      nothing : (k : ℕ) → Chosen (suc n) k → Chosen (suc n) (k + 0)
      nothing k = subst (Chosen (suc n)) (omega arith)

      go : (k : ℕ) → Chosen n k → (b : Bool) → p n ≡ b → (w : Bool) → new n ≡ w → Chosen (suc n) (k + cond b (cond w 1 0) 0)
      go k d false e w r = nothing k (known n k d (λ t. absurd (subst T e t)))
      go k d true e false r = nothing k (known n k d (λ t.
          let l = every_fails (λ l. not (eq (term l) (term n))) n r in
          let m : term l.0 ≡ term n = same l.0 n (omega (arith, l.1)) (omega arith) (subst T (sym (not-false (eq (term l.0) (term n)) l.2)) tt) in
          let i = d.every l.0 l.1 (subst T (sym (alike l.0 n m)) t) in
          (i.0, i.1, i.2 ∙ m)))
      go k d true e true r = another n k d (subst T (sym e) tt) (λ l a. other l n (omega arith) (not-true (eq (term l) (term n)) (every_one (λ l. not (eq (term l) (term n))) n r l a)))

-- of two enumerations neither is longer
enumerated_most : (term : ℕ → Float) (p : ℕ → Bool) (n k m : ℕ) → Different term p n k → Different term p n m → k ≤ m
enumerated_most term p n k m a b =
    each_own k m (λ i x. term (b.representative x) ≡ term (a.representative i))
    (λ i l. b.every (a.representative i) (a.within i l).0 (a.within i l).1)
    (λ i l x s t u v. a.apart i l s t (sym u ∙ v))

pub one_number : OneNumber
one_number term p n k m a b = le_antisymm (enumerated_most term p n k m a b) (enumerated_most term p n m k b a)

-- ---- one stage
module _ (j : ℕ) (center : Float) where
  pub different_most : different j center ≤ entries j
  unfolding different
  different_most = total_most (fresh j center) (entries j) (fresh_most j center)

  pub different_some : 0 < entries j → 1 ≤ different j center
  unfolding different
  different_some h = go (entries j) h
    where
      go : (n : ℕ) → 0 < n → 1 ≤ total (fresh j center) n
      go zero h = absurd (omega arith)
      go (suc n) h = total_some (fresh j center) n (fresh_first j center)

module _ (img : Image) (f : FrameSpec) (q : Quad) (j : ℕ) (center : Float) where
  pub stage_counts : entries j ≤ 41 → Finite center → StageCounts img f q j center
  unfolding different mapped fresh
  stage_counts h c = record {
    tried = counts_different (k_at j center) (λ i. true) 41 same other (λ i l e. refl) (entries j) h;
    homographies = counts_different (k_at j center) (λ i. fits_for img.w img.h f q (k_at j center i)) 41 same other
        (λ i l e. ap (fits_for img.w img.h f q) e) (entries j) h;
  }
    where
      same : (i l : ℕ) → i < 41 → l < 41 → T (eq (k_at j center i) (k_at j center l)) → k_at j center i ≡ k_at j center l
      same i l = term_same j center i l

      other : (i l : ℕ) → i < 41 → eq (k_at j center i) (k_at j center l) ≡ false → k_at j center i ≡ k_at j center l → ⊥
      other i l a = term_apart j center i l a c

-- what a stage adds to the counts
module _ (c : ℕ → ℕ) (b : ℕ → Bool) (g : ℕ → Grade) (t : ℕ → GeometryFit) (tried homographies : ℕ) where
  abbrev outcome : ℕ → Outcome
  outcome i = cond (b i) (Graded (g i)) NoHomography

  abbrev after : ℕ → Stage
  after n = turns n (λ i s. staged (c i) (outcome i) (t i) s) (begun tried homographies)

  counted : (n : ℕ) → ((after n).tried ≡ tried + total c n) × ((after n).homographies ≡ homographies + total (λ i. cond (b i) (c i) 0) n)
  unfolding turns total
  counted zero = (omega arith, omega arith)
  counted (suc n) =
      let h = counted n in
      let s = staged_counts (c n) (outcome n) (t n) (after n) in
      let m : mapped_by (outcome n) (c n) ≡ cond (b n) (c n) 0 = by_case (b n) in
      (omega (arith, h.0, s.0), omega (arith, h.1, s.1))
    where
      by_case : (w : Bool) → mapped_by (cond w (Graded (g n)) NoHomography) (c n) ≡ cond w (c n) 0
      by_case true = unfold mapped_by in refl
      by_case false = unfold mapped_by in refl

module _ (img : Image) (f : FrameSpec) (q : Quad) where
  stage_counted : (j : ℕ) (center : Float) (tried homographies : ℕ)
      → ((stage_from img f q j center tried homographies).tried ≡ tried + different j center)
      × ((stage_from img f q j center tried homographies).homographies ≡ homographies + mapped img f q j center)
  unfolding stage_from different mapped outcome_of
  stage_counted j center tried homographies =
      counted (fresh j center) (λ i. fits_for img.w img.h f q (k_at j center i)) (λ i. grade_of img f (fit_for img.w img.h f q (k_at j center i)))
      (λ i. fit_for img.w img.h f q (k_at j center i)) tried homographies (entries j)

  -- a stage after one that kept a trial
  record Followed (j : ℕ) (s : Stage) : Type 0 where
    kept_before : (b : Grade) × (s.kept ≡ Graded b)
    is : next_stage img f q j s ≡ stage_from img f q j s.fit.radial.k s.tried s.homographies

  followed : (j : ℕ) (s : Stage) (g : Grade) → (next_stage img f q j s).kept ≡ Graded g → Followed j s
  unfolding next_stage
  followed j s g e = go s.kept refl e
    where
      next : Stage
      next = stage_from img f q j s.fit.radial.k s.tried s.homographies

      go : (o : Outcome) → s.kept ≡ o → (on_kept s.kept s next).kept ≡ Graded g → Followed j s
      go NoHomography k e =
          let c : s.kept ≡ Graded g = sym (ap (λ (z : Outcome). (on_kept z s next).kept) k) ∙ e in
          cc
      go (Graded b) k e = record { kept_before = (b, k); is = ap (λ z. on_kept z s next) k }

  -- the k that a stage keeps is one of its terms
  kept_finite : (j : ℕ) (center : Float) (tried homographies : ℕ) (g : Grade) → entries j ≤ 41 → Finite center
      → (stage_from img f q j center tried homographies).kept ≡ Graded g → Finite (stage_from img f q j center tried homographies).fit.radial.k
  kept_finite j center tried homographies g most c e =
      let best = stage_best img f q j center tried homographies g e in
      let k : (stage_from img f q j center tried homographies).fit.radial.k ≡ k_at j center best.entry =
      ap (λ (z : GeometryFit). z.radial.k) best.is ∙ (unfold fit_for radial in refl) in
      subst Finite (sym k) (term_finite j center best.entry (omega (arith, best.of_stage)) c)

-- [26.4] the first stage repeats no term, and the others do at the ends of the range
pub first_41 : different 0 (f64 0) ≡ 41
unfolding different total fresh every turns entries k_at span step d64 clamp_of round_of of_int to_unsigned add sub mul div neg lt eq round
first_41 = refl

pub ends_repeat : EndsRepeat
unfolding different total fresh every turns entries k_at span step d64 clamp_of round_of of_int to_unsigned add sub mul div neg lt eq round
ends_repeat = ((refl, refl), (refl, refl))

zero_finite : Finite (f64 0)
zero_finite = small_finite (whole_small 0 (omega arith))

-- the counts of a search that keeps a trial
pub search_counts : (img : Image) (f : FrameSpec) (q : Quad) (g : Grade) → (searched img f q).kept ≡ Graded g
    → Counts img f q (searched img f q).tried (searched img f q).homographies
unfolding searched second_stage first_stage second_center last_center
search_counts img f q g e =
    let n0 : entries 0 ≡ 41 = stage_lengths.0 in
    let n1 : entries 1 ≡ 21 = stage_lengths.1 in
    let n2 : entries 2 ≡ 16 = stage_lengths.2 in
    let third = followed img f q 2 (second_stage img f q) g e in
    let second = followed img f q 1 (first_stage img f q) third.kept_before.0 third.kept_before.1 in
    let a = second_center img f q in
    let b = last_center img f q in
    let x = stage_counted img f q 0 (f64 0) 0 0 in
    let y = stage_counted img f q 1 a (first_stage img f q).tried (first_stage img f q).homographies in
    let z = stage_counted img f q 2 b (second_stage img f q).tried (second_stage img f q).homographies in
    let t1 : (second_stage img f q).tried ≡ (first_stage img f q).tried + different 1 a = ap (λ (s : Stage). s.tried) second.is ∙ y.0 in
    let h1 : (second_stage img f q).homographies ≡ (first_stage img f q).homographies + mapped img f q 1 a = ap (λ (s : Stage). s.homographies) second.is ∙ y.1 in
    let t2 : (searched img f q).tried ≡ (second_stage img f q).tried + different 2 b = ap (λ (s : Stage). s.tried) third.is ∙ z.0 in
    let h2 : (searched img f q).homographies ≡ (second_stage img f q).homographies + mapped img f q 2 b = ap (λ (s : Stage). s.homographies) third.is ∙ z.1 in
    let t0 : (first_stage img f q).tried ≡ 0 + different 0 (f64 0) = x.0 in
    let h0 : (first_stage img f q).homographies ≡ 0 + mapped img f q 0 (f64 0) = x.1 in
    let some1 : 1 ≤ different 1 a = different_some 1 a (omega arith) in
    let some2 : 1 ≤ different 2 b = different_some 2 b (omega arith) in
    let most1 : different 1 a ≤ entries 1 = different_most 1 a in
    let most2 : different 2 b ≤ entries 2 = different_most 2 b in
    let all0 : different 0 (f64 0) ≡ 41 = first_41 in
    let fa : Finite a = kept_finite img f q 0 (f64 0) 0 0 second.kept_before.0 (omega arith) zero_finite second.kept_before.1 in
    let ks : (stage_from img f q 1 a (first_stage img f q).tried (first_stage img f q).homographies).kept ≡ Graded third.kept_before.0 =
    sym (ap (λ (s : Stage). s.kept) second.is) ∙ third.kept_before.1 in
    let fb : Finite b = subst (λ (s : Stage). Finite s.fit.radial.k) (sym second.is) (kept_finite img f q 1 a (first_stage img f q).tried (first_stage
    img f q).homographies third.kept_before.0 (omega arith) fa ks) in
    record {
      tried_is = omega arith;
      mapped_is = omega arith;
      first = stage_counts img f q 0 (f64 0) (omega arith) zero_finite;
      second = stage_counts img f q 1 a (omega arith) fa;
      third = stage_counts img f q 2 b (omega arith) fb;
      first_all = all0 ∙ sym n0;
      second_some = some1;
      third_some = some2;
      tried_held = (omega arith, omega arith);
    }

-- ---- nothing is kept by the counts
abbrev Same : Stage → Stage → Type 0
Same s t = (s.kept ≡ t.kept) × (s.fit ≡ t.fit)

staged_same : (c d : ℕ) (o : Outcome) (t : GeometryFit) (x y : Stage) → Same x y → Same (staged c o t x) (staged d o t y)
unfolding staged
staged_same c d NoHomography t x y h = h
staged_same c d (Graded g) t x y h =
    subst (λ (w : Bool). Same (cond (replaces x.kept g) (takes c g t x) (stays c x)) (cond w (takes d g t y) (stays d y))) (ap (λ o. replaces o g) h.0)
    (go (replaces x.kept g))
  where
    go : (w : Bool) → Same (cond w (takes c g t x) (stays c x)) (cond w (takes d g t y) (stays d y))
    go true = (refl, refl)
    go false = h

turns_same : (c d : ℕ → ℕ) (o : ℕ → Outcome) (t : ℕ → GeometryFit) (n : ℕ) (x y : Stage) → Same x y
    → Same (turns n (λ i s. staged (c i) (o i) (t i) s) x) (turns n (λ i s. staged (d i) (o i) (t i) s) y)
unfolding turns
turns_same c d o t zero x y h = h
turns_same c d o t (suc n) x y h = staged_same (c n) (d n) (o n) (t n) _ _ (turns_same c d o t n x y h)

module _ (c : ℕ → Float → ℕ → ℕ) (img : Image) (f : FrameSpec) (q : Quad) where
  stage_same : (j : ℕ) (center : Float) (a b a' b' : ℕ) → Same (stage_by c img f q j center a b) (stage_from img f q j center a' b')
  unfolding stage_from
  stage_same j center a b a' b' =
      turns_same (c j center) (fresh j center) (λ i. outcome_of img f q (k_at j center i)) (λ i. fit_for img.w img.h f q (k_at j center i)) (entries j)
      (begun a b) (begun a' b') (refl, refl)

  next_same : (j : ℕ) (x y : Stage) → Same x y → Same (next_by c img f q j x) (next_stage img f q j y)
  unfolding next_stage
  next_same j x y h =
      subst (λ (o : Outcome). Same (on_kept o x (by x.fit.radial.k)) (on_kept y.kept y from)) (sym h.0)
      (subst (λ (k : Float). Same (on_kept y.kept x (by k)) (on_kept y.kept y from)) (ap (λ (t : GeometryFit). t.radial.k) (sym h.1)) (go y.kept))
    where
      by : Float → Stage
      by k = stage_by c img f q j k x.tried x.homographies

      from : Stage
      from = stage_from img f q j y.fit.radial.k y.tried y.homographies

      go : (o : Outcome) → Same (on_kept o x (by y.fit.radial.k)) (on_kept o y from)
      go NoHomography = h
      go (Graded g) = stage_same j y.fit.radial.k x.tried x.homographies y.tried y.homographies

pub kept_alone : KeptAlone
unfolding searched_by searched second_stage first_stage
kept_alone c img f q = next_same c img f q 2 _ _ (next_same c img f q 1 _ _ (stage_same c img f q 0 (f64 0) 0 0 0 0))
