-- From the tests and a picture's fit to what `rectify` promises. Assumes nothing.
use Prim.Native.Nat.{ℕ, zero, suc, ◌≤◌}
use mathlib.Core.Path.{◌≡◌, refl, sym, ap, subst, ◌∙◌}
use mathlib.Core.Bool.{Bool, true, false, cond, ◌&&◌}
use mathlib.Core.List.{List}
use native.Mathlib.Omega.{arith}
use borrow.Author.Tests.{eqb-true, eqb-false, not-false}
use lib.Dec.{T, eqb}
use lib.ListN.{length}
use lib.Ieee.{Float}
use Rattle.frame.specs.Image.{Image, byte_of}
use Rattle.std.specs.Prelude.{Err}
use Rattle.frame.specs.Refusals.{number, number_of, Lowest, lowest_of}
use Rattle.frame.specs.Refusals.Lowest.{accepted, refused}
use Rattle.frame.specs.declared.FrameSpec.{FrameSpec}
use Rattle.frame.specs.declared.Quad.{Quad}
use Rattle.frame.specs.declared.refusals.Refusal.{Refusal}
use Rattle.frame.specs.declared.refusals.Refusal.TheVariants.{Unscored}
use Rattle.frame.proofs.Given.{positive}
use Rattle.frame.proofs.Lowest.{none_tested}
use Rattle.base.proofs.Table.{filled_whole}
use Rattle.candidates.specs.Areas.{Areas, lengths_of}
use Rattle.candidates.specs.Bounds.{Ready}
use Rattle.candidates.proofs.Refusing.{clear, rising, upto_six}
use Rattle.fiducials.specs.Promises.{MarkedBy, centers_at}
use Rattle.fiducials.proofs.Unique.{corners_mark, marked_unique}
use Rattle.fit.specs.Promises.{sampled_cells}
use Rattle.fit.specs.Fits.{no_fit}
use Rattle.fit.specs.declared.GeometryFit.{GeometryFit}
use Rattle.search.specs.Counts.{Counts}
use Rattle.search.specs.Stages.{keeps, searched}
use Rattle.search.specs.declared.Outcome.{Outcome}
use Rattle.search.specs.declared.Stage.{Stage}
use Rattle.fit_geometry.specs.Promises.{Unfitted, fit_short, corners_named, FitPastTests, unsearched, refused_by_test}
use Rattle.fit_geometry.specs.declared.PictureFit.{PictureFit}
use Rattle.fit_geometry.proofs.Determined.{Kind, fine, low, high, kind}
use Rattle.fit_geometry.proofs.PastTests.{fit_room, tests_lowest}
use Rattle.geometry.specs.Warp.{reading, warped, beyond}
use Rattle.geometry.specs.Promises.{canonical_length, canonical_wrong}
use Rattle.geometry.specs.Rectification.{Lent, lent, rectify_tests, unscored, Unrectified, without_fit, scored_fit, laid_where, beyond_where, Seen, Rectification}
use Rattle.geometry.proofs.Unscored.{score_kept, upto_ten, keeps_one, refused_fit, scored_fit_lem, unscored_fit_lem}

-- ---- the canonical image

-- of a picture and a frame by what they are
pub laid_as : {img img' : Image} {f f' : FrameSpec} {canonical' : List ℕ} (n : ℕ) (fit : GeometryFit) (canonical : List ℕ) → img' ≡ img → f' ≡ f
    → canonical' ≡ laid_where n img' f' fit canonical → canonical' ≡ laid_where n img f fit canonical
laid_as n fit canonical d e h = h ∙ (λ i. laid_where n (d i) (e i) fit canonical)

pub beyond_where_as : {img img' : Image} {f f' : FrameSpec} {count : ℕ} (n : ℕ) (fit : GeometryFit) → img' ≡ img → f' ≡ f
    → count ≡ beyond_where n img' f' fit → count ≡ beyond_where n img f fit
beyond_where_as n fit d e h = h ∙ (λ i. beyond_where n (d i) (e i) fit)

pub laid_warped : (n : ℕ) (img : Image) (f : FrameSpec) (fit : GeometryFit) (canonical : List ℕ) → n ≡ 0 → warped img f fit canonical ≡ laid_where n img f fit canonical
unfolding laid_where
laid_warped zero img f fit canonical e = refl
laid_warped (suc n) img f fit canonical e = absurd (omega arith)

pub laid_kept : (n : ℕ) (img : Image) (f : FrameSpec) (fit : GeometryFit) (canonical : List ℕ) → (n ≡ 0 → ⊥) → canonical ≡ laid_where n img f fit canonical
unfolding laid_where
laid_kept zero img f fit canonical h = absurd (h refl)
laid_kept (suc n) img f fit canonical h = refl

pub beyond_laid : (n : ℕ) (img : Image) (f : FrameSpec) (fit : GeometryFit) → n ≡ 0 → beyond img f fit ≡ beyond_where n img f fit
unfolding beyond_where
beyond_laid zero img f fit e = refl
beyond_laid (suc n) img f fit e = absurd (omega arith)

pub beyond_kept : (n : ℕ) (img : Image) (f : FrameSpec) (fit : GeometryFit) → (n ≡ 0 → ⊥) → 0 ≡ beyond_where n img f fit
unfolding beyond_where
beyond_kept zero img f fit h = absurd (h refl)
beyond_kept (suc n) img f fit h = refl

-- the same bytes over whatever it held
pub warped_same : (img : Image) (f : FrameSpec) (fit : GeometryFit) (c d : List ℕ) → length c ≡ canonical_length f → length d ≡ canonical_length f
    → warped img f fit c ≡ warped img f fit d
unfolding warped
warped_same img f fit c d x y =
    filled_whole (byte_of f.width (reading img fit)) (canonical_length f) c x ∙ sym (filled_whole (byte_of f.width (reading img fit)) (canonical_length f) d y)

-- ---- the tests

-- what is known where no test refuses
pub record Passed (img : Image) (f : FrameSpec) (a : Lent) : Type 0 where
  pub ready : Ready img f a.areas
  pub means_room : sampled_cells f ≤ length a.means
  pub canonical_long : length a.canonical ≡ canonical_length f

pub passed : (img : Image) (f : FrameSpec) (a : Lent) → lowest_of (rectify_tests img f a) ≡ 0 → Passed img f a
unfolding canonical_wrong
passed img f a e =
    let c = clear img f _ _ e in
    let r = fit_room img f a.areas a.means _ c in
    record { ready = r.0; means_room = r.1; canonical_long = eqb-true _ _ (not-false _ c.right) }

-- ---- `rectify`

module _ (img : Image) (f : FrameSpec) (a : Lent) where
  abbrev short : Bool
  short = fit_short img f (lengths_of a.areas) (length a.means)

  abbrev wrong : Bool
  wrong = canonical_wrong f (length a.canonical)

  pub rectify_refused : {p : PictureFit} (r : Refusal) → number r ≡ lowest_of (rectify_tests img f a) → p ≡ refused_by_test r → Rectification img f a a p 0
  unfolding refused_by_test unsearched
  rectify_refused r e q =
      let some : 1 ≤ number r = positive r in
      let l = tests_lowest img f (rectify_tests img f a) (rising img f short wrong) (upto_six img f short wrong) (number r) e some in
      let s : number r ≤ 6 = l.1 in
      subst (λ (t : PictureFit). Rectification img f a a t 0) (sym q) (record {
        number = number r;
        given = refl;
        refusal = refused_fit img f (rectify_tests img f a) (number r) (upto_six img f short wrong) some l.0;
        untouched = λ x y. refl;
        refused = λ x. absurd (omega arith);
        accepted = λ x. absurd (omega arith);
        unseen = λ x y. (refl, refl, refl);
        untried = λ x y. refl;
        nowhere = λ x. refl;
        beyond_is = λ x. absurd (omega arith);
        beyond_none = λ x. refl;
      })

  module _ (b : Areas) (means : List Float) (p : PictureFit) (e : lowest_of (rectify_tests img f a) ≡ 0) (h : FitPastTests img f a.areas b a.means means p) where
    -- what the call leaves, where its picture's fit is r in the end
    abbrev left : PictureFit → Lent
    left r = lent b means (laid_where (number_of r.places) img f r.stage.fit a.canonical)

    -- .. and the whole of it with its answer
    abbrev Rectifies : PictureFit → Type 0
    Rectifies r = Rectification img f a (left r) r (beyond_where (number_of r.places) img f r.stage.fit)

    abbrev n : ℕ
    n = number_of p.places

    lowest_fit : Lowest (Unfitted img f (rectify_tests img f a)) n
    lowest_fit = h.lowest (rectify_tests img f a) (none_tested (rectify_tests img f a) (rising img f short wrong) e)

    -- the corners, where there is a fit
    module _ (z : n ≡ 0) where
      abbrev centers : Quad
      centers = centers_at b.patches (corners_named p.places)

      centers_mark : MarkedBy img f centers
      centers_mark = corners_mark img f b.patches h.looked.firsts p.counts.patches (corners_named p.places) (h.corners z)

      kept_is : (searched img f centers).kept ≡ p.stage.kept
      kept_is = ap (λ (t : Stage). t.kept) (sym (h.found z))

      keeps_some : T (keeps p.stage.kept)
      keeps_some = subst (λ (o : Outcome). T (keeps o)) kept_is (keeps_one img f (rectify_tests img f a) (rising img f short wrong) n z lowest_fit centers centers_mark)

    -- ---- a fit that is refused, or has a score
    module _ (s : n ≡ 0 → unscored p.stage.kept ≡ false) where
      as_lowest : Lowest (Unrectified img f (rectify_tests img f a)) n
      as_lowest = go (kind n)
        where
          higher : 1 ≤ n → Lowest (Unrectified img f (rectify_tests img f a)) n
          higher x = refused_fit img f (rectify_tests img f a) n (upto_six img f short wrong) x lowest_fit

          go : Kind n → Lowest (Unrectified img f (rectify_tests img f a)) n
          go (fine z) =
              subst (Lowest (Unrectified img f (rectify_tests img f a))) (sym z)
              (scored_fit_lem img f (rectify_tests img f a) (rising img f short wrong) n z lowest_fit (centers z) (centers_mark z) (ap unscored (kept_is z) ∙ s z))
          go (low x y) = higher x
          go (high x) = higher (omega arith)

      most_ten : n ≤ 10
      most_ten = go lowest_fit
        where
          go : Lowest (Unfitted img f (rectify_tests img f a)) n → n ≤ 10
          go (accepted z g) = omega arith
          go (refused u g) = upto_ten img f (rectify_tests img f a) (upto_six img f short wrong) n u

      seeing : Seen img f a (left p) p n
      seeing =
          record {
            looked = h.looked;
            means_rest = h.means_rest;
            corners = h.corners;
            best = h.best;
            found = h.found;
            counts = h.counts;
            laid = λ z. sym (laid_warped n img f p.stage.fit a.canonical z);
            kept = λ z. sym (laid_kept n img f p.stage.fit a.canonical (λ y. absurd (omega arith)));
            fruitless = h.fruitless;
            scored = λ z. score_kept p.stage.kept (keeps_some z) (s z);
            undecided = λ z. absurd (let y = most_ten in omega arith);
            undecided_counts = λ z. absurd (let y = most_ten in omega arith);
          }

      rectifying : Rectifies p
      rectifying =
          record {
            number = n;
            given = refl;
            refusal = as_lowest;
            untouched = λ x y. absurd (let z : 7 ≤ n = h.from_seven x in omega arith);
            refused = λ x. seeing;
            accepted = λ x. seeing;
            unseen = λ x y. absurd (let z : 7 ≤ n = h.from_seven x in omega arith);
            untried = h.untried;
            nowhere = h.nowhere;
            beyond_is = λ z. sym (beyond_laid n img f p.stage.fit z);
            beyond_none = λ x. sym (beyond_kept n img f p.stage.fit (λ y. absurd (omega arith)));
          }

    -- ---- a fit without a score
    module _ (z : n ≡ 0) (s : unscored p.stage.kept ≡ true) where
      abbrev none : PictureFit
      none = record { places = Err Unscored; stage = without_fit p.stage; counts = p.counts }

      seeing_unscored : Seen img f a (left none) none 16
      unfolding without_fit
      seeing_unscored =
          record {
            looked = h.looked;
            means_rest = h.means_rest;
            corners = λ x. absurd (omega arith);
            best = λ x. absurd (omega arith);
            found = λ x. absurd (omega arith);
            counts = λ x. absurd (omega arith);
            laid = λ x. absurd (omega arith);
            kept = λ x. sym (laid_kept 16 img f no_fit a.canonical (λ y. omega arith));
            fruitless = λ x. absurd (omega arith);
            scored = λ x. absurd (omega arith);
            undecided = λ x q m. ap without_fit (h.found z ∙ ap (searched img f) (marked_unique img f (centers z) q (centers_mark z) m));
            undecided_counts = λ x q m.
                subst (λ (c : Quad). Counts img f c p.stage.tried p.stage.homographies) (marked_unique img f (centers z) q (centers_mark z) m) (h.counts z);
          }

      rectifying_unscored : Rectifies none
      rectifying_unscored =
          record {
            number = 16;
            given = refl;
            refusal = unscored_fit_lem img f (rectify_tests img f a) (rising img f short wrong) n z lowest_fit (centers z) (centers_mark z) (subst T (sym (ap unscored (kept_is z) ∙ s)) tt);
            untouched = λ x y. absurd (omega arith);
            refused = λ x. seeing_unscored;
            accepted = λ x. absurd (omega arith);
            unseen = λ x y. absurd (omega arith);
            untried = λ x y. absurd (omega arith);
            nowhere = λ x. refl;
            beyond_is = λ x. absurd (omega arith);
            beyond_none = λ x. sym (beyond_kept 16 img f (without_fit p.stage).fit (λ y. omega arith));
          }

    -- ---- either
    either : Rectifies (scored_fit p)
    unfolding scored_fit
    either = go (eqb n 0) (unscored p.stage.kept) refl refl
      where
        go : (t s : Bool) → eqb n 0 ≡ t → unscored p.stage.kept ≡ s
            → Rectifies (cond (t && s) (record { places = Err Unscored; stage = without_fit p.stage; counts = p.counts }) p)
        go true true x y = rectifying_unscored (eqb-true _ _ x) y
        go true false x y = rectifying (λ z. y)
        go false s x y = rectifying (λ z. absurd (eqb-false _ _ x z))

    pub rectify_found : {t : PictureFit} {canonical : List ℕ} {count : ℕ} → t ≡ scored_fit p → canonical ≡ (left t).canonical
        → count ≡ beyond_where (number_of t.places) img f t.stage.fit → Rectification img f a (lent b means canonical) t count
    rectify_found {t} {canonical} x c q =
        subst (Rectification img f a (lent b means canonical) t) (sym q)
        (subst (λ (y : List ℕ). Rectification img f a (lent b means y) t (beyond_where (number_of t.places) img f t.stage.fit)) (sym c) (subst Rectifies (sym x) either))
