-- The definitions, by the cases that the code goes by. Assumes nothing.
use mathlib.Core.Path.{◌≡◌, refl, sym, ap, ◌∙◌}
use mathlib.Core.Bool.{Bool, true, false, cond, ◌&&◌}
use Prim.Native.Nat.{ℕ, ◌+◌, ◌<◌, ◌≤◌}
use native.Mathlib.Omega.{arith}
use lib.Dec.{ltb}
use lib.Ieee.{Float}
use borrow.Author.Tests.{lt-ltb, le-ltb}
use Rattle.base.proofs.Pick.{pick_yes, pick_no}
use Rattle.frame.specs.Image.{Image}
use Rattle.base.proofs.Tests.{and_both}
use Rattle.frame.specs.declared.FrameSpec.{FrameSpec}
use Rattle.frame.specs.declared.Quad.{Quad}
use Rattle.fit.specs.declared.GeometryFit.{GeometryFit}
use Rattle.fit.specs.declared.Grade.{Grade}
use Rattle.fit.specs.Grid.{grade_of}
use Rattle.fit.specs.Fits.{fits_for, fit_for, no_fit}
use Rattle.search.specs.declared.Trial.{Trial}
use Rattle.search.specs.declared.Outcome.{Outcome}
use Rattle.search.specs.declared.Outcome.TheVariants.{NoHomography, Graded}
use Rattle.search.specs.declared.Stage.{Stage}
use Rattle.search.specs.declared.Search.{Search}
use Rattle.search.specs.Stages.{replaces, staged, takes, stays, begun, keeps, entries, outcome_of}
use Rattle.search.specs.Turn.{trial_of, advanced}

-- ---- what a stage keeps
module _ (c : ℕ) (t : GeometryFit) (s : Stage) {o : Outcome} where
  pub staged_none : o ≡ NoHomography → record { kept = s.kept; fit = s.fit; tried = s.tried + c; homographies = s.homographies } ≡ staged c o t s
  unfolding staged
  staged_none e = sym (ap (λ z. staged c z t s) e)

  pub staged_takes : {g : Grade} → o ≡ Graded g → replaces s.kept g ≡ true → takes c g t s ≡ staged c o t s
  unfolding staged
  staged_takes e r = pick_yes _ _ _ r ∙ sym (ap (λ z. staged c z t s) e)

  pub staged_stays : {g : Grade} → o ≡ Graded g → replaces s.kept g ≡ false → stays c s ≡ staged c o t s
  unfolding staged
  staged_stays e r = pick_no _ _ _ r ∙ sym (ap (λ z. staged c z t s) e)

-- ---- what a stage counts

-- what a trial that adds c to the trials adds to the homographies
unfoldable pub mapped_by : Outcome → ℕ → ℕ
mapped_by NoHomography c = 0
mapped_by (Graded g) c = c

pub staged_counts : (c : ℕ) (o : Outcome) (t : GeometryFit) (s : Stage) → ((staged c o t s).tried ≡ s.tried + c) × ((staged c o t s).homographies ≡ s.homographies + mapped_by o c)
unfolding staged mapped_by
staged_counts c NoHomography t s = (refl, omega arith)
staged_counts c (Graded g) t s = go (replaces s.kept g)
  where
    go : (b : Bool) → ((cond b (takes c g t s) (stays c s)).tried ≡ s.tried + c) × ((cond b (takes c g t s) (stays c s)).homographies ≡ s.homographies + c)
    go true = (refl, refl)
    go false = (refl, refl)

pub mapped_most : (o : Outcome) (c : ℕ) → mapped_by o c ≤ c
unfolding mapped_by
mapped_most NoHomography c = omega arith
mapped_most (Graded g) c = omega arith

-- a stage takes a trial by its outcome; the fit counts only where there is a homography
pub staged_trial : (c : ℕ) (img : Image) (f : FrameSpec) (q : Quad) (k : Float) (s : Stage)
    → staged c (trial_of img f q k).outcome (trial_of img f q k).fit s ≡ staged c (outcome_of img f q k) (fit_for img.w img.h f q k) s
unfolding trial_of outcome_of
staged_trial c img f q k s = go (grade_of img f (fit_for img.w img.h f q k)) (fit_for img.w img.h f q k) (fits_for img.w img.h f q k)
  where
    go : (g : Grade) (t : GeometryFit) (b : Bool)
        → (let r : Trial = cond b (record { outcome = Graded g; fit = t }) (record { outcome = NoHomography; fit = no_fit }) in
        staged c r.outcome r.fit s ≡ staged c (cond b (Graded g) NoHomography) t s)
    go g t true = refl
    go g t false = unfold staged in refl

-- ---- after an entry
module _ (s : Search) (t : Stage) where
  pub advanced_entry : s.entry + 1 < entries s.number → record { number = s.number; entry = s.entry + 1; center = s.center; stage = t; ended = false } ≡ advanced s t
  unfolding advanced
  advanced_entry h = pick_yes _ _ _ (lt-ltb _ _ h)

  pub advanced_stage : entries s.number ≤ s.entry + 1 → keeps t.kept ≡ true → s.number < 2
      → record { number = s.number + 1; entry = 0; center = t.fit.radial.k; stage = begun t.tried t.homographies; ended = false } ≡ advanced s t
  unfolding advanced
  advanced_stage h k l = pick_yes _ _ _ (and_both _ _ k (lt-ltb _ _ l)) ∙ pick_no _ _ _ (le-ltb _ _ h)

  pub advanced_over : entries s.number ≤ s.entry + 1 → (keeps t.kept && ltb s.number 2) ≡ false
      → record { number = s.number; entry = s.entry; center = s.center; stage = t; ended = true } ≡ advanced s t
  unfolding advanced
  advanced_over h k = pick_no _ _ _ k ∙ pick_no _ _ _ (le-ltb _ _ h)
