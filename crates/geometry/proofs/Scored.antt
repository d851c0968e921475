-- What a score says, which number a record gets, and which card: the theorems of specs/Scored. Assumes nothing.
use Prim.Native.Nat.{ℕ, ◌≤◌}
use native.Mathlib.Nat.{pos_of_ne-zero}
use mathlib.Core.Path.{◌≡◌, refl, sym, ap, subst, ◌∙◌}
use mathlib.Core.Bool.{Bool, true, false, not}
use mathlib.Core.List.{List}
use mathlib.Core.Logic.{inl, inr}
use borrow.Author.Tests.{ltb-true, ltb-false, eqb-true, eqb-false, eq-eqb}
use lib.Dec.{ltb, eqb}
use lib.Ieee.{Float}
use lib.ListN.{length}
use Rattle.base.proofs.Tests.{fails}
use Rattle.frame.specs.Image.{Image}
use Rattle.std.specs.Prelude.{Ok}
use Rattle.frame.specs.Refusals.{Tested, lowest_of, frame_outside, capture_wrong}
use Rattle.frame.specs.declared.FrameSpec.{FrameSpec}
use Rattle.frame.specs.declared.refusals.Refusal.TheVariants.{Unscored}
use Rattle.frame.proofs.Lowest.{none_tested, lowest_first, lowest_next, lowest_none}
use Rattle.candidates.specs.Areas.{picture_tests}
use Rattle.candidates.proofs.Refusing.{rising}
use Rattle.fit.specs.Promises.{sampled_cells}
use Rattle.fit.specs.First.{Sampled, HasTapOutside}
use Rattle.fit.specs.Grid.{grade_of, fisher}
use Rattle.fit.specs.Numbers.{grade_number}
use Rattle.fit.specs.declared.GeometryFit.{GeometryFit}
use Rattle.fit.specs.declared.Grade.{Grade}
use Rattle.fit.specs.declared.Grade.TheVariants.{Score}
use Rattle.fit.proofs.First.{some_outside, none_outside}
use Rattle.search.proofs.Kept.{kept_grade}
use Rattle.search.specs.declared.Outcome.TheVariants.{Graded}
use Rattle.search.specs.declared.Stage.{Stage}
use Rattle.book.specs.Layout.{record_of}
use Rattle.book.specs.declared.FitRecord.{FitRecord}
use Rattle.book.proofs.FitKept.{fit_kept}
use Rattle.geometry.specs.Warp.{warped, beyond}
use Rattle.geometry.specs.Promises.{canonical_length, canonical_wrong, warp_tests, record_tests}
use Rattle.geometry.specs.Rectification.{Lent, rectify_tests}
use Rattle.geometry.specs.Scored.{AcceptedScored, RecordRefusal, warp, unscored_record, none, RecordGiven, RecordLays}
use Rattle.geometry.proofs.Given.{passed_as, warp_four, by_warp, by_grade}
use Rattle.geometry.proofs.Determined.{accepted_number, unrefused}
use Rattle.geometry.proofs.Rectifying.{passed, warped_same}

-- ---- a score

module _ (img : Image) (f : FrameSpec) (fit : GeometryFit) (s : Float) (e : grade_of img f fit ≡ Score s) where
  none_out : (column row : ℕ) → Sampled f column row → HasTapOutside img f fit column row → ⊥
  none_out column row x o = let g = sym e ∙ (some_outside img f fit column row x o).1 in cc

  enough : 16 ≤ sampled_cells f
  enough = go (ltb (sampled_cells f) 16) refl
    where
      go : (b : Bool) → ltb (sampled_cells f) 16 ≡ b → 16 ≤ sampled_cells f
      go true x = let g = sym e ∙ (none_outside img f fit none_out).0 (ltb-true _ _ x) in cc
      go false x = ltb-false _ _ x

  score_is : Score s ≡ Score (fisher img f fit (sampled_cells f))
  score_is = sym e ∙ (none_outside img f fit none_out).1 enough

pub accepted_scored : AcceptedScored
accepted_scored img f a b r n h v =
    let fit = r.stage.fit in
    let z = accepted_number img f h v in
    let seen = h.accepted z in
    let s = (seen.scored z).0 in
    let k = (seen.scored z).1 in
    let found = seen.found z in
    let g : grade_of img f fit ≡ Score s =
    ap (λ (t : Stage). grade_of img f t.fit) found ∙ sym (kept_grade img f _ (Score s) (ap (λ (t : Stage). t.kept) (sym found) ∙ k)) in
    (enough img f fit s g, none_out img f fit s g, k ∙ ap Graded (score_is img f fit s g))

-- ---- a book's record

module _ (img : Image) (f : FrameSpec) (c : List ℕ) (kept : FitRecord) where
  given : RecordRefusal img f kept c (lowest_of (record_tests img f kept c))
  given = go (eqb (lowest_of (warp_tests img f c)) 0) (eqb kept.grade 0) refl refl
    where
      go : (a g : Bool) → eqb (lowest_of (warp_tests img f c)) 0 ≡ a → eqb kept.grade 0 ≡ g → RecordRefusal img f kept c (lowest_of (record_tests img f kept c))
      go false g x y =
          let h = eqb-false _ _ x in
          subst (RecordRefusal img f kept c) (by_warp img f kept c _ refl (pos_of_ne-zero h)) (warp (pos_of_ne-zero h) (warp_four img f c) refl)
      go true false x y =
          let e = eqb-true _ _ x in
          unscored_record (by_grade img f kept c e ∙ lowest_first Unscored _ _ (ap not y)) e (eqb-false _ _ y)
      go true true x y =
          let e = eqb-true _ _ x in
          none (by_grade img f kept c e ∙ lowest_next Unscored _ _ (ap not y) ∙ lowest_none) e (eqb-true _ _ y)

pub record_given : RecordGiven
record_given img f kept c = given img f c kept

module _ (img : Image) (f : FrameSpec) (a : Lent) (e : lowest_of (rectify_tests img f a) ≡ 0) where
  untested : (n : ℕ) → Tested n (rectify_tests img f a) → ⊥
  untested = none_tested (rectify_tests img f a) (rising img f _ _) e

  framed : frame_outside f ≡ false
  unfolding picture_tests
  framed = fails _ (λ t. untested 1 (inl (refl, t)))

  captured : capture_wrong img ≡ false
  unfolding picture_tests
  captured = fails _ (λ t. untested 2 (inr (inl (refl, t))))

  -- what `rectify` takes, `warp_record` takes with a scored record
  record_passes : (kept : FitRecord) (c : List ℕ) → kept.grade ≡ 0 → length c ≡ canonical_length f → lowest_of (record_tests img f kept c) ≡ 0
  unfolding record_tests warp_tests canonical_wrong
  record_passes kept c g l =
      lowest_next _ _ _ framed ∙ lowest_next _ _ _ captured ∙ lowest_next _ _ _ (ap not (eq-eqb _ _ l)) ∙ lowest_next _ _ _ (ap not (eq-eqb _ 0 g)) ∙ lowest_none

scored_zero : (g : Grade) (s : Float) → g ≡ Score s → grade_number g ≡ 0
unfolding grade_number
scored_zero g s e = ap grade_number e

graded : (g h : Grade) → Graded g ≡ Graded h → g ≡ h
graded g h e = cc

record_graded : (panel camera : ℕ) (g : Grade) (fit : GeometryFit) (s : Float) → g ≡ Score s → (record_of panel camera g fit).grade ≡ 0
unfolding record_of
record_graded panel camera g fit s e = scored_zero g s e

pub record_lays : RecordLays
record_lays img f a b r n panel camera g c c' m h y k nine F l w =
    let fit = r.stage.fit in
    let z = accepted_number img f h y in
    let clear = unrefused img f h z in
    let seen = h.accepted z in
    let e = record_passes img f a clear (record_of panel camera g fit) c
    (record_graded panel camera g fit (seen.scored z).0 (graded _ _ (sym k ∙ (seen.scored z).1))) l in (
      w.given
          ∙ passed_as _ _ e
          ∙ ap Ok (ap (beyond img f) (fit_kept panel camera g fit nine F) ∙ sym (h.beyond_is z)),
      w.accepted e
          ∙ ap (λ (t : GeometryFit). warped img f t c) (fit_kept panel camera g fit nine F)
          ∙ warped_same img f fit c a.canonical l (passed img f a clear).canonical_long
          ∙ sym (seen.laid z),
    )
