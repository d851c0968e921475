-- A rectification's answer, its canonical image and its planes, marks and records are decided by the capture and the frame, where the same tests hold.
-- Assumes nothing.
use Prim.Native.Nat.{ℕ, ◌≤◌}
use mathlib.Core.Path.{◌≡◌, refl, sym, ap, subst, ◌∙◌}
use mathlib.Core.Bool.{Bool, true, false}
use native.Mathlib.Omega.{arith}
use borrow.Author.Tests.{eqb-true, eqb-false}
use lib.Dec.{eqb}
use Rattle.frame.specs.Image.{Image}
use Rattle.frame.specs.Refusals.{number_of, lowest_of}
use Rattle.frame.specs.declared.FrameSpec.{FrameSpec}
use Rattle.candidates.proofs.Determined as look
use Rattle.candidates.proofs.Refusing.{rising, upto_six}
use Rattle.fit.specs.Promises.{MeansKept}
use Rattle.fit_geometry.specs.Agreement.{SameTests, SameFit}
use Rattle.fit_geometry.specs.Promises.{FittingAfter}
use Rattle.fit_geometry.specs.declared.PictureFit.{PictureFit}
use Rattle.fit_geometry.proofs.Determined.{Kind, fine, low, high, kind, Guarding, counts, none_where, same_answer, same_fit}
use Rattle.geometry.specs.Warp.{warped, beyond}
use Rattle.geometry.specs.Rectification.{Lent, rectify_tests, Seen, Rectification}
use Rattle.geometry.specs.Agreement.{Agreement}
use Rattle.geometry.proofs.Rectifying.{passed, warped_same}
use Rattle.geometry.proofs.Unscored.{as_fit, unscored_card, same_unrectified}

guarding : (img : Image) (f : FrameSpec) (a : Lent) → Guarding img f a.areas (rectify_tests img f a)
guarding img f a =
    record {
      rises = rising img f _ _;
      most = upto_six img f _ _;
      ready = λ z. (passed img f a z).ready;
    }

-- except by 16 a rectification fits the geometry as `fit_geometry` does, after its own tests
pub fitting : (img : Image) (f : FrameSpec) {a b : Lent} {r : PictureFit} {n : ℕ} (h : Rectification img f a b r n) → (h.number ≡ 16 → ⊥)
    → FittingAfter img f (rectify_tests img f a) a.areas b.areas a.means b.means r
fitting img f {a} {b} h other =
    record {
      number = h.number;
      given = h.given;
      refusal = as_fit img f (rectify_tests img f a) h.number other h.refusal;
      untouched = λ x y.
          let e = h.untouched x y in
          let u = h.unseen x y in
          (ap (λ (l : Lent). l.areas) e, ap (λ (l : Lent). l.means) e, u.0, u.1, u.2);
      refused = λ x. (h.refused x).looked;
      accepted = λ x. (h.accepted x).looked;
      means_rest = rest (kind h.number);
      corners = λ x. (h.accepted x).corners x;
      found = λ x. (h.accepted x).found x;
      best = λ x. (h.accepted x).best x;
      counts = λ x. (h.accepted x).counts x;
      fruitless = λ x. (h.refused (omega arith)).fruitless x;
      untried = h.untried;
      nowhere = h.nowhere;
    }
  where
    rest : Kind h.number → MeansKept f a.means b.means
    rest (fine x) = (h.accepted x).means_rest
    rest (low x y) = subst (λ (l : Lent). MeansKept f a.means l.means) (sym (h.untouched x y)) (refl, refl)
    rest (high x) = (h.refused x).means_rest

pub accepted_number : (img : Image) (f : FrameSpec) {a b : Lent} {r : PictureFit} {n : ℕ} (h : Rectification img f a b r n) → number_of r.places ≡ 0 → h.number ≡ 0
accepted_number img f h v = sym h.given ∙ v

-- no test refuses an accepted one
pub unrefused : (img : Image) (f : FrameSpec) {a b : Lent} {r : PictureFit} {n : ℕ} (h : Rectification img f a b r n) → h.number ≡ 0 → lowest_of (rectify_tests img f a) ≡ 0
unrefused img f {a} h z =
    none_where img f (rectify_tests img f a) (guarding img f a) h.number (as_fit img f (rectify_tests img f a) h.number (λ x. omega (arith, z)) h.refusal) z

module _ (img : Image) (f : FrameSpec) (a a' b b' : Lent) (r r' : PictureFit) (n n' : ℕ) (h : Rectification img f a b r n) (h' : Rectification img f a' b' r' n')
    (e : SameTests (rectify_tests img f a) (rectify_tests img f a')) where
  same_number : h.number ≡ h'.number
  same_number =
      same_unrectified img f (rectify_tests img f a) (rectify_tests img f a') (guarding img f a) (guarding img f a') e h.number h'.number h.refusal h'.refusal

  -- two that are refused by 16: the corners are those of the picture, and so is the search over them
  module _ (z : h.number ≡ 16) where
    abbrev z' : h'.number ≡ 16
    z' = sym same_number ∙ z

    abbrev seen : Seen img f a b r h.number
    seen = h.refused (omega arith)

    abbrev seen' : Seen img f a' b' r' h'.number
    seen' = h'.refused (omega (arith, z'))

    stage_agrees : r.stage ≡ r'.stage
    stage_agrees =
        let c = unscored_card img f (rectify_tests img f a) h.number (guarding img f a).most z h.refusal in
        seen.undecided z c.0 c.1.0 ∙ sym (seen'.undecided z' c.0 c.1.0)

    same_unscored : SameFit img b.areas b'.areas r r' (lowest_of (rectify_tests img f a))
    same_unscored =
        record {
          answer =
              same_answer r r' (h.given ∙ same_number ∙ sym h'.given) stage_agrees (h.nowhere (omega arith) ∙ sym (h'.nowhere (omega (arith, z'))))
              (counts img f r r' seen.looked seen'.looked);
          look = λ x.
              look.same_look img f _ _ _ _ _ _ _ _ _ _ seen.looked seen'.looked ((guarding img f a).ready x) ((guarding img f a').ready (sym e ∙ x));
        }

  same : SameFit img b.areas b'.areas r r' (lowest_of (rectify_tests img f a))
  same = go (eqb h.number 16) refl
    where
      go : (t : Bool) → eqb h.number 16 ≡ t → SameFit img b.areas b'.areas r r' (lowest_of (rectify_tests img f a))
      go true x = same_unscored (eqb-true _ _ x)
      go false x =
          same_fit img f (guarding img f a) (guarding img f a') (fitting img f h (eqb-false _ _ x)) (fitting img f h' (λ y. eqb-false _ _ x (same_number ∙ y))) e

  module _ (v : number_of r.places ≡ 0) where
    yes : h.number ≡ 0
    yes = accepted_number img f h v

    yes' : h'.number ≡ 0
    yes' = accepted_number img f h' (ap (λ (s : PictureFit). number_of s.places) (sym same.answer) ∙ v)

    none : lowest_of (rectify_tests img f a) ≡ 0
    none = unrefused img f h yes

    canonical_agrees : b.canonical ≡ b'.canonical
    canonical_agrees =
        (h.accepted yes).laid yes
        ∙ warped_same img f r.stage.fit a.canonical a'.canonical (passed img f a none).canonical_long (passed img f a' (sym e ∙ none)).canonical_long
        ∙ ap (λ (s : PictureFit). warped img f s.stage.fit a'.canonical) same.answer ∙ sym ((h'.accepted yes').laid yes')

  beyond_agrees : n ≡ n'
  beyond_agrees = go (kind h.number)
    where
      refused_both : 1 ≤ h.number → n ≡ n'
      refused_both x = h.beyond_none x ∙ sym (h'.beyond_none (omega (arith, same_number)))

      go : Kind h.number → n ≡ n'
      go (fine z) =
          h.beyond_is z
          ∙ ap (λ (s : PictureFit). beyond img f s.stage.fit) same.answer
          ∙ sym (h'.beyond_is (sym same_number ∙ z))
      go (low x y) = refused_both x
      go (high x) = refused_both (omega arith)

  pub determined : Agreement img b b' r r' n n' (lowest_of (rectify_tests img f a))
  determined = record { fit = same; beyond_same = beyond_agrees; canonical = canonical_agrees }
