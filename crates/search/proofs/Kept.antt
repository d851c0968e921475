-- The kept trial of a stage scores most, and first among equals; NaN included. Assumes nothing.
use mathlib.Core.Path.{◌≡◌, refl, sym, ap, subst, ◌∙◌}
use mathlib.Core.Bool.{Bool, true, false, not, cond}
use mathlib.Core.Logic.{◌⊎◌, inl, inr, ⊎_elim}
use Prim.Native.Nat.{ℕ, zero, suc, ◌<◌}
use native.Mathlib.Omega.{arith}
use lib.Dec.{T, T_not, not_T}
use lib.Ieee.{Float}
use Rattle.frame.specs.declared.FrameSpec.{FrameSpec}
use Rattle.frame.specs.declared.Quad.{Quad}
use Rattle.fit.specs.declared.GeometryFit.{GeometryFit}
use Rattle.fit.specs.declared.Grade.{Grade}
use Rattle.search.specs.declared.Outcome.{Outcome}
use Rattle.search.specs.declared.Outcome.TheVariants.{NoHomography, Graded}
use Rattle.search.specs.declared.Stage.{Stage}
use Rattle.base.specs.Loops.{turns}
use Rattle.frame.specs.Image.{Image}
use Rattle.fit.specs.Grid.{grade_of}
use Rattle.search.specs.Stages.{staged, more, as_much, begun, stage_from, entries, k_at, fresh, outcome_of, BestTrial, next_stage, first_stage}
use Rattle.search.specs.Stages.{second_stage, searched, last_center, on_kept, keeps, Barren, BarrenStage, KeptGrade, KeptOutside}
use Rattle.fit.specs.Fits.{fit_for, fits_for}
use Rattle.fit.proofs.First.{outside_first}
use Rattle.fit.specs.declared.Grade.TheVariants.{Outside}
use Rattle.search.specs.Stages.BarrenStage.{first, second, third}
use Rattle.search.proofs.OneMore.{Keeps, one_more}
use Rattle.search.proofs.OneMore.Keeps.{none, some}
use Rattle.float.specs.Floats.{f64}

module _ (c : ℕ → ℕ) (o : ℕ → Outcome) (t : ℕ → GeometryFit) where
  -- what a stage keeps after all its trials
  pub kept_trial : (n tried homographies : ℕ) → Keeps o t n (turns n (λ i s. staged (c i) (o i) (t i) s) (begun tried homographies))
  unfolding turns
  kept_trial zero tried homographies = none refl (λ i h. absurd (omega arith))
  kept_trial (suc n) tried homographies = one_more c o t n (turns n (λ i s. staged (c i) (o i) (t i) s) (begun tried homographies)) (o n) refl (kept_trial n tried homographies)

-- ---- the last stage of a search

-- a trial that has an outcome with a grade has a homography
graded : (img : Image) (f : FrameSpec) (q : Quad) (k : Float) (g : Grade) → outcome_of img f q k ≡ Graded g → T (fits_for img.w img.h f q k)
unfolding outcome_of
graded img f q k g e = go (fits_for img.w img.h f q k) e
  where
    go : (b : Bool) → cond b (Graded (grade_of img f (fit_for img.w img.h f q k))) NoHomography ≡ Graded g → T b
    go true e = tt
    go false e = cc

-- .. and that grade is its fit's
graded_as : (img : Image) (f : FrameSpec) (q : Quad) (k : Float) (g : Grade) → outcome_of img f q k ≡ Graded g → g ≡ grade_of img f (fit_for img.w img.h f q k)
unfolding outcome_of
graded_as img f q k g e = go (fits_for img.w img.h f q k) e
  where
    go : (b : Bool) → cond b (Graded (grade_of img f (fit_for img.w img.h f q k))) NoHomography ≡ Graded g → g ≡ grade_of img f (fit_for img.w img.h f q k)
    go true e = cc
    go false e = cc

module _ (img : Image) (f : FrameSpec) (q : Quad) (j : ℕ) (center : Float) (tried homographies : ℕ) where
  -- the trial that a stage keeps is its best, and the first of the best
  pub stage_best : (g : Grade) → (stage_from img f q j center tried homographies).kept ≡ Graded g → BestTrial img f q j center (stage_from img f q j center tried homographies).fit
  unfolding stage_from
  stage_best g e = go (kept_trial (fresh j center) (λ i. outcome_of img f q (k_at j center i)) (λ i. fit_for img.w img.h f q (k_at j center i)) (entries j) tried homographies)
    where
      go : Keeps (λ i. outcome_of img f q (k_at j center i)) (λ i. fit_for img.w img.h f q (k_at j center i)) (entries j) (stage_from img f q j center tried homographies)
          → BestTrial img f q j center (stage_from img f q j center tried homographies).fit
      go (none k h) = cc
      go (some a b l p k r m u) =
          record {
            entry = a;
            of_stage = l;
            has_homography_lem = graded img f q (k_at j center a) b p;
            is = r;
            none_more = λ i h. subst (λ z. T (not (more (outcome_of img f q (k_at j center i)) z))) (sym p) (m i h);
            none_earlier = λ i h. subst (λ z. T (not (as_much (outcome_of img f q (k_at j center i)) z))) (sym p) (u i h);
          }

  -- and its grade is that of its fit
  stage_grade : (g : Grade) → (stage_from img f q j center tried homographies).kept ≡ Graded g → g ≡ grade_of img f (stage_from img f q j center tried homographies).fit
  unfolding stage_from
  stage_grade g e = go (kept_trial (fresh j center) (λ i. outcome_of img f q (k_at j center i)) (λ i. fit_for img.w img.h f q (k_at j center i)) (entries j) tried homographies)
    where
      go : Keeps (λ i. outcome_of img f q (k_at j center i)) (λ i. fit_for img.w img.h f q (k_at j center i)) (entries j) (stage_from img f q j center tried homographies)
          → g ≡ grade_of img f (stage_from img f q j center tried homographies).fit
      go (none k h) = cc
      go (some a b l p k r m u) =
          let s : b ≡ g = cc in
          sym s ∙ graded_as img f q (k_at j center a) b p ∙ ap (grade_of img f) (sym r)

  -- a stage keeps none exactly when no trial of it has a homography
  pub stage_none : (stage_from img f q j center tried homographies).kept ≡ NoHomography → (i : ℕ) → i < entries j → outcome_of img f q (k_at j center i) ≡ NoHomography
  unfolding stage_from
  stage_none e = go (kept_trial (fresh j center) (λ i. outcome_of img f q (k_at j center i)) (λ i. fit_for img.w img.h f q (k_at j center i)) (entries j) tried homographies)
    where
      go : Keeps (λ i. outcome_of img f q (k_at j center i)) (λ i. fit_for img.w img.h f q (k_at j center i)) (entries j) (stage_from img f q j center tried homographies)
          → (i : ℕ) → i < entries j → outcome_of img f q (k_at j center i) ≡ NoHomography
      go (none k h) = h
      go (some a b l p k r m u) = cc

-- a search that keeps a trial ends with its third stage
last_stage : (img : Image) (f : FrameSpec) (q : Quad) (g : Grade) → (searched img f q).kept ≡ Graded g → searched img f q
    ≡ stage_from img f q 2 (last_center img f q) (second_stage img f q).tried (second_stage img f q).homographies
unfolding searched next_stage last_center
last_stage img f q g e =
    let s = second_stage img f q in
    go s (stage_from img f q 2 s.fit.radial.k s.tried s.homographies) s.kept refl e
  where
    go : (s n : Stage) (o : Outcome) → s.kept ≡ o → (on_kept s.kept s n).kept ≡ Graded g → on_kept s.kept s n ≡ n
    go s n NoHomography k e =
        let d : on_kept s.kept s n ≡ s = ap (λ z. on_kept z s n) k in
        let c : s.kept ≡ Graded g = sym (ap (λ (z : Stage). z.kept) d) ∙ e in cc
    go s n (Graded b) k e = ap (λ z. on_kept z s n) k

module _ (img : Image) (f : FrameSpec) (q : Quad) (g : Grade) (e : (searched img f q).kept ≡ Graded g) where
  -- what the third stage keeps
  last_keeps : (stage_from img f q 2 (last_center img f q) (second_stage img f q).tried (second_stage img f q).homographies).kept ≡ Graded g
  last_keeps = sym (ap (λ (z : Stage). z.kept) (last_stage img f q g e)) ∙ e

  -- demand 3: the fit of a search that keeps one is the best trial of the last stage
  pub search_best : BestTrial img f q 2 (last_center img f q) (searched img f q).fit
  search_best =
      subst (λ (z : Stage). BestTrial img f q 2 (last_center img f q) z.fit) (sym (last_stage img f q g e))
      (stage_best img f q 2 (last_center img f q) (second_stage img f q).tried (second_stage img f q).homographies g last_keeps)

-- .. and the grade beside it is that fit's
pub kept_grade : KeptGrade
kept_grade img f q g e =
    stage_grade img f q 2 (last_center img f q) (second_stage img f q).tried (second_stage img f q).homographies g (last_keeps img f q g e)
    ∙ ap (λ (z : Stage). grade_of img f z.fit) (sym (last_stage img f q g e))

pub kept_outside : KeptOutside
kept_outside img f q cell e = outside_first img f (searched img f q).fit cell (sym (kept_grade img f q (Outside cell) e))

-- ---- 10: a search keeps none exactly when a stage is barren

no_grade : (o : Outcome) → T (not (keeps o)) → o ≡ NoHomography
unfolding keeps
no_grade NoHomography h = refl
no_grade (Graded g) h = absurd h

pub some_grade : (o : Outcome) → T (keeps o) → (g : Grade) × (o ≡ Graded g)
unfolding keeps
some_grade NoHomography h = absurd h
some_grade (Graded g) h = (g, refl)

keeps_none : (o : Outcome) → o ≡ NoHomography → T (not (keeps o))
unfolding keeps
keeps_none NoHomography e = tt
keeps_none (Graded g) e = cc

module _ (img : Image) (f : FrameSpec) (q : Quad) where
  without : (k : Float) → outcome_of img f q k ≡ NoHomography → T (not (fits_for img.w img.h f q k))
  unfolding outcome_of
  without k e = go (fits_for img.w img.h f q k) e
    where
      go : (b : Bool) → cond b (Graded (grade_of img f (fit_for img.w img.h f q k))) NoHomography ≡ NoHomography → T (not b)
      go true e = cc
      go false e = tt

  -- one stage
  stage_barren : (j : ℕ) (center : Float) (tried homographies : ℕ) → (stage_from img f q j center tried homographies).kept ≡ NoHomography → Barren img f q j center
  stage_barren j center tried homographies e i h = without (k_at j center i) (stage_none img f q j center tried homographies e i h)

  barren_stage : (j : ℕ) (center : Float) (tried homographies : ℕ) → Barren img f q j center → T (not (keeps (stage_from img f q j center tried homographies).kept))
  barren_stage j center tried homographies b =
      not_T (keeps (stage_from img f q j center tried homographies).kept) (λ t.
      let g = some_grade (stage_from img f q j center tried homographies).kept t in
      let best = stage_best img f q j center tried homographies g.0 g.1 in
      T_not (fits_for img.w img.h f q (k_at j center best.entry)) (b best.entry best.of_stage) best.has_homography_lem)

  -- a later stage, after s
  next_barren : (j : ℕ) (s : Stage) → T (not (keeps (next_stage img f q j s).kept)) → T (not (keeps s.kept)) ⊎ (T (keeps s.kept) × Barren img f q j s.fit.radial.k)
  unfolding next_stage
  next_barren j s h = go s.kept h
    where
      go : (o : Outcome) → T (not (keeps (on_kept o s (stage_from img f q j s.fit.radial.k s.tried s.homographies)).kept))
          → T (not (keeps o)) ⊎ (T (keeps o) × Barren img f q j s.fit.radial.k)
      go NoHomography h = inl (keeps_none NoHomography refl)
      go (Graded g) h = inr (unfold keeps in tt, stage_barren j s.fit.radial.k s.tried s.homographies (no_grade _ h))

  barren_next : (j : ℕ) (s : Stage) → Barren img f q j s.fit.radial.k → T (not (keeps (next_stage img f q j s).kept))
  unfolding next_stage
  barren_next j s b = go s.kept refl
    where
      go : (o : Outcome) → s.kept ≡ o → T (not (keeps (on_kept o s (stage_from img f q j s.fit.radial.k s.tried s.homographies)).kept))
      go NoHomography e = keeps_none s.kept e
      go (Graded g) e = barren_stage j s.fit.radial.k s.tried s.homographies b

  after_none : (j : ℕ) (s : Stage) → T (not (keeps s.kept)) → T (not (keeps (next_stage img f q j s).kept))
  unfolding next_stage
  after_none j s h = go s.kept refl (no_grade s.kept h)
    where
      go : (o : Outcome) → s.kept ≡ o → o ≡ NoHomography → T (not (keeps (on_kept o s (stage_from img f q j s.fit.radial.k s.tried s.homographies)).kept))
      go NoHomography e n = keeps_none s.kept e
      go (Graded g) e n = cc

  pub search_barren : T (not (keeps (searched img f q).kept)) → BarrenStage img f q
  unfolding searched second_stage first_stage last_center
  search_barren h = ⊎_elim
      (λ s. ⊎_elim
      (λ t. first (stage_barren 0 (f64 0) 0 0 (no_grade (first_stage img f q).kept t)))
      (λ t. second t.0 t.1)
      (next_barren 1 (first_stage img f q) s))
      (λ s. third s.0 s.1)
      (next_barren 2 (second_stage img f q) h)

  pub barren_search : BarrenStage img f q → T (not (keeps (searched img f q).kept))
  unfolding searched second_stage first_stage last_center
  barren_search (first b) = after_none 2 (second_stage img f q) (after_none 1 (first_stage img f q) (barren_stage 0 (f64 0) 0 0 b))
  barren_search (second k b) = after_none 2 (second_stage img f q) (barren_next 1 (first_stage img f q) b)
  barren_search (third k b) = barren_next 2 (second_stage img f q) b
