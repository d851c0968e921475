-- From a detection and a search to what `fit_geometry` promises. Assumes nothing.
use mathlib.Core.Path.{◌≡◌, refl, sym, ap, subst, ◌∙◌}
use mathlib.Core.Bool.{Bool, true, false, not, cond, ◌||◌}
use mathlib.Core.List.{List, []}
use Prim.Native.Nat.{ℕ, ◌≤◌, ◌<◌}
use native.Mathlib.Omega.{arith}
use lib.Dec.{T, T_not, ltb}
use lib.ListN.{length}
use borrow.Author.Tests.{ltb-false}
use lib.Ieee.{Float}
use Rattle.std.specs.Prelude.{Result, Ok, Err}
use Rattle.frame.specs.Image.{Image}
use Rattle.frame.specs.Refusals.{number, number_of, Lowest, Check, Tested, lowest_of, capture_wrong}
use Rattle.frame.specs.Refusals.Lowest.{accepted, refused}
use Rattle.frame.proofs.Held.{capture_held}
use Rattle.frame.proofs.Lowest.{Rising, lowest_of_lem, none_tested}
use Rattle.base.proofs.Tests.{or_left, or_right}
use Rattle.frame.specs.declared.FrameSpec.{FrameSpec}
use Rattle.frame.specs.declared.Quad.{Quad}
use Rattle.frame.specs.declared.refusals.Refusal.{Refusal}
use Rattle.frame.specs.declared.refusals.Refusal.TheVariants as R
use Rattle.frame.proofs.Given.{positive}
use Rattle.candidates.specs.Areas.{picture_tests, Areas, lengths_of, shorter, smallest, area_short}
use Rattle.candidates.specs.Bounds.{Ready}
use Rattle.candidates.specs.declared.Lengths.{Lengths}
use Rattle.candidates.proofs.Refusing.{Clear, clear, rising, upto_six, ready_of}
use Rattle.fiducials.specs.Answers.{places_of, quad_of}
use Rattle.fiducials.specs.Promises.{MarkedBy, Undetected, centers_at, DetectionPastTests}
use Rattle.fiducials.specs.Promises.Undetected.{tested, few, shared, crooked}
use Rattle.fiducials.specs.declared.Corners.{Corners}
use Rattle.candidates.specs.declared.Counts as candidates
use Rattle.fiducials.proofs.Unique.{marked_unique}
use Rattle.fit.specs.Promises.{sampled_cells, MeansKept}
use Rattle.search.specs.declared.Stage.{Stage}
use Rattle.fit_geometry.specs.declared.PictureFit.{PictureFit}
use Rattle.search.specs.Counts.{Counts}
use Rattle.search.specs.Stages.{keeps, searched, last_center, BestTrial}
use Rattle.fit_geometry.specs.Promises.{Unfitted, undetected, barren, fit_short, fit_tests, unsearched, searched_fit, FitPastTests, refused_by_test, Fitting}
use Rattle.search.proofs.Counts.{search_counts}
use Rattle.search.proofs.Kept.{search_best, search_barren, barren_search, some_grade}

-- ---- the lowest number

module _ (img : Image) (f : FrameSpec) (tests : List Check) (none : (j : ℕ) → Tested j tests → ⊥) where
  -- 7 to 9 by a detection
  upto_nine : (n : ℕ) → Undetected img f tests n → n ≤ 9
  upto_nine n (tested t) = absurd (none n t)
  upto_nine n (few e x) = omega arith
  upto_nine n (shared e x) = omega arith
  upto_nine n (crooked e q m x) = omega arith

  from_seven : (n : ℕ) → Undetected img f tests n → 7 ≤ n
  from_seven n (tested t) = absurd (none n t)
  from_seven n (few e x) = omega arith
  from_seven n (shared e x) = omega arith
  from_seven n (crooked e q m x) = omega arith

  pub detection_most : (n : ℕ) → Lowest (Undetected img f tests) n → n ≤ 9
  detection_most n (accepted e g) = omega arith
  detection_most n (refused c g) = upto_nine n c

  pub detection_lowest : (n : ℕ) → 1 ≤ n → Lowest (Undetected img f tests) n → Lowest (Unfitted img f tests) n
  detection_lowest n h (accepted e g) = absurd (omega arith)
  detection_lowest n h (refused c g) = refused (undetected c) lower
    where
      lower : (k : ℕ) → k < n → Unfitted img f tests k → ⊥
      lower k l (undetected d) = g k l d
      lower k l (barren e q m b) = let z : n ≤ 9 = upto_nine n c in omega arith

  -- a detection that is not refused
  detected : (n k : ℕ) → n ≡ 0 → Lowest (Undetected img f tests) n → Undetected img f tests k → ⊥
  detected n k z (accepted e g) d = g k d
  detected n k z (refused c g) d = let h : 7 ≤ n = from_seven n c in omega arith

  module _ (n : ℕ) (z : n ≡ 0) (l : Lowest (Undetected img f tests) n) (q : Quad) (m : MarkedBy img f q) where
    pub kept_lowest : keeps (searched img f q).kept ≡ true → Lowest (Unfitted img f tests) 0
    kept_lowest k = accepted refl lower
      where
        lower : (j : ℕ) → Unfitted img f tests j → ⊥
        lower j (undetected d) = detected n j z l d
        lower j (barren e r o b) =
            T_not (keeps (searched img f q).kept)
            (subst (λ (y : Quad). T (not (keeps (searched img f y).kept))) (marked_unique img f r q o m) (barren_search img f r b))
            (subst T (sym k) tt)

    pub fruitless_lowest : keeps (searched img f q).kept ≡ false → Lowest (Unfitted img f tests) 10
    fruitless_lowest k = refused (barren refl q m (search_barren img f q (subst (λ b. T (not b)) (sym k) tt))) lower
      where
        lower : (j : ℕ) → j < 10 → Unfitted img f tests j → ⊥
        lower j h (undetected d) = detected n j z l d
        lower j h (barren e r o b) = omega arith

-- ---- past the tests

-- a detection, as its answer and counts say
abbrev pub Detects : Image → FrameSpec → Areas → Areas → Result Corners Refusal → candidates.Counts → Type 0
Detects img f a b c n = DetectionPastTests img f a b (number_of c) n.patches n.candidates n.waited (places_of c) (quad_of c)

module _ (img : Image) (f : FrameSpec) (a b : Areas) (means : List Float) (n : candidates.Counts) where
  pub past_tests_unsearched : (r : Refusal) → Detects img f a b (Err r) n → FitPastTests img f a b means means (unsearched r n)
  unfolding unsearched
  past_tests_unsearched r h =
      let some : 1 ≤ number r = positive r in
      let most : number r ≤ 9 = detection_most img f [] (λ j t. t) (number r) (h.lowest [] (λ j t. t)) in
      record {
        looked = h.looked;
        means_rest = (refl, refl);
        lowest = λ tests none. detection_lowest img f tests none (number r) some (h.lowest tests none);
        from_seven = h.from_seven;
        corners = λ e. absurd (omega arith);
        found = λ e. absurd (omega arith);
        best = λ e. absurd (omega arith);
        counts = λ e. absurd (omega arith);
        fruitless = λ e q m. absurd (omega arith);
        untried = λ x y. refl;
        nowhere = λ x. refl;
      }

  module _ (c : Corners) (h : Detects img f a b (Ok c) n) (means' : List Float) (rest : MeansKept f means means') where
    kept_picture : keeps (searched img f c.quad).kept ≡ true
        → FitPastTests img f a b means means' (record { places = Ok c.places; stage = searched img f c.quad; counts = n })
    kept_picture k =
        let g = some_grade (searched img f c.quad).kept (subst T (sym k) tt) in
        let e : c.quad ≡ centers_at b.patches c.places = h.centers refl in
        record {
          looked = h.looked;
          means_rest = rest;
          lowest = λ tests none. kept_lowest img f tests none 0 refl (h.lowest tests none) c.quad (h.marked refl) k;
          from_seven = λ x. absurd (omega arith);
          corners = λ z. h.corners refl;
          found = λ z. ap (searched img f) e;
          best = λ z.
              subst (λ (q : Quad). BestTrial img f q 2 (last_center img f q) (searched img f c.quad).fit) e (search_best img f c.quad g.0 g.1);
          counts = λ z.
              subst (λ (q : Quad). Counts img f q (searched img f c.quad).tried (searched img f c.quad).homographies) e (search_counts img f c.quad g.0 g.1);
          fruitless = λ z. absurd (omega arith);
          untried = λ x. absurd (omega arith);
          nowhere = λ x. absurd (omega arith);
        }

    fruitless_picture : keeps (searched img f c.quad).kept ≡ false
        → FitPastTests img f a b means means' (record { places = Err R.NoHomography; stage = searched img f c.quad; counts = n })
    fruitless_picture k =
        record {
          looked = h.looked;
          means_rest = rest;
          lowest = λ tests none. fruitless_lowest img f tests none 0 refl (h.lowest tests none) c.quad (h.marked refl) k;
          from_seven = λ x. omega arith;
          corners = λ e. absurd (omega arith);
          found = λ e. absurd (omega arith);
          best = λ e. absurd (omega arith);
          counts = λ e. absurd (omega arith);
          fruitless = λ e q m. ap (searched img f) (marked_unique img f c.quad q (h.marked refl) m);
          untried = λ x y. absurd (omega arith);
          nowhere = λ x. refl;
        }

    pub past_tests_searched : FitPastTests img f a b means means' (searched_fit c.places (searched img f c.quad) n)
    unfolding searched_fit
    past_tests_searched = go (keeps (searched img f c.quad).kept) refl
      where
        go : (k : Bool) → keeps (searched img f c.quad).kept ≡ k
            → FitPastTests img f a b means means' (record { places = cond k (Ok c.places) (Err R.NoHomography); stage = searched img f c.quad; counts = n })
        go true k = kept_picture k
        go false k = fruitless_picture k

-- .. as the code has it
module _ (img : Image) (f : FrameSpec) (a b : Areas) (means : List Float) {n : candidates.Counts} {d : Result Corners Refusal} {p : PictureFit} (h : Detects img f a b d n) where
  pub unsearched_is : {r : Refusal} → d ≡ Err r → p ≡ unsearched r n → FitPastTests img f a b means means p
  unsearched_is {r} e q =
      subst (FitPastTests img f a b means means) (sym q)
      (past_tests_unsearched img f a b means n r (subst (λ (c : Result Corners Refusal). Detects img f a b c n) e h))

  pub searched_is : {c : Corners} {t : Stage} (means' : List Float) → d ≡ Ok c → t ≡ searched img f c.quad → MeansKept f means means'
      → p ≡ searched_fit c.places t n → FitPastTests img f a b means means' p
  searched_is {c} means' e s rest q =
      subst (FitPastTests img f a b means means') (sym (q ∙ ap (λ (t : Stage). searched_fit c.places t n) s))
      (past_tests_searched img f a b means n c (subst (λ (c : Result Corners Refusal). Detects img f a b c n) e h) means' rest)

-- ---- the tests

-- 3, as the code finds it where 2 does not apply
pub short_is : (img : Image) (f : FrameSpec) (l : Lengths) (m : ℕ) {areas means : Bool} → capture_wrong img ≡ false
    → (img.w ≤ 4096 → img.h ≤ 4096 → areas ≡ shorter l (smallest img.w img.h)) → means ≡ ltb m (sampled_cells f) → (areas || means) ≡ fit_short img f l m
short_is img f l m d x y = let h = capture_held img d in let z = x h.w_most h.h_most in λ i. z i || y i

-- what a fit asks, where none of the tests of a call that is handed what it takes holds
pub fit_room : (img : Image) (f : FrameSpec) (a : Areas) (means : List Float) (wrong : Bool) → Clear img f (fit_short img f (lengths_of a) (length means)) wrong
    → Ready img f a × (sampled_cells f ≤ length means)
fit_room img f a means wrong c =
    let few = ltb (length means) (sampled_cells f) in
    (ready_of img f a c (or_left (area_short img a) few c.long), ltb-false _ _ (or_right (area_short img a) few c.long))

-- a test that holds goes before 7 to 10
module _ (img : Image) (f : FrameSpec) (tests : List Check) (up : Rising 0 tests) (most : (j : ℕ) → Tested j tests → j ≤ 6) where
  lower : (k : ℕ) → k ≤ 6 → ((j : ℕ) → j < k → Tested j tests → ⊥) → (j : ℕ) → j < k → Unfitted img f tests j → ⊥
  lower k s g j x (undetected (tested t)) = g j x t
  lower k s g j x (undetected (few y z)) = omega arith
  lower k s g j x (undetected (shared y z)) = omega arith
  lower k s g j x (undetected (crooked y q o z)) = omega arith
  lower k s g j x (barren y q o z) = omega arith

  pub tests_lowest : (n : ℕ) → n ≡ lowest_of tests → 1 ≤ n → Lowest (Unfitted img f tests) n × (n ≤ 6)
  tests_lowest n e h = subst (λ k. Lowest (Unfitted img f tests) k × (k ≤ 6)) (sym e) (go (lowest_of_lem 0 tests up))
    where
      go : Lowest (λ k. Tested k tests) (lowest_of tests) → Lowest (Unfitted img f tests) (lowest_of tests) × (lowest_of tests ≤ 6)
      go (accepted y g) = absurd (omega (arith, e))
      go (refused t g) = (refused (undetected (tested t)) (lower _ (most _ t) g), most _ t)

-- ---- `fit_geometry`

module _ (img : Image) (f : FrameSpec) (a : Areas) (means : List Float) where
  abbrev short : Bool
  short = fit_short img f (lengths_of a) (length means)

  pub fit_refused : {p : PictureFit} (r : Refusal) → number r ≡ lowest_of (fit_tests img f a means) → p ≡ refused_by_test r → Fitting img f a a means means p
  unfolding refused_by_test unsearched
  fit_refused r e q =
      let some : 1 ≤ number r = positive r in
      let l = tests_lowest img f (fit_tests img f a means) (rising img f short false) (upto_six img f short false) (number r) e some in
      let s : number r ≤ 6 = l.1 in
      subst (Fitting img f a a means means) (sym q) (record {
        number = number r;
        given = refl;
        refusal = l.0;
        untouched = λ x y. (refl, refl, refl, refl, refl);
        refused = λ x. absurd (omega arith);
        accepted = λ x. absurd (omega arith);
        means_rest = (refl, refl);
        corners = λ x. absurd (omega arith);
        found = λ x. absurd (omega arith);
        best = λ x. absurd (omega arith);
        counts = λ x. absurd (omega arith);
        fruitless = λ x. absurd (omega arith);
        untried = λ x y. refl;
        nowhere = λ x. refl;
      })

  pub fit_reported : (b : Areas) (means' : List Float) (p : PictureFit) → lowest_of (fit_tests img f a means) ≡ 0
      → FitPastTests img f a b means means' p → Fitting img f a b means means' p
  fit_reported b means' p e h =
      record {
        number = number_of p.places;
        given = refl;
        refusal = h.lowest (fit_tests img f a means) (none_tested (fit_tests img f a means) (rising img f short false) e);
        untouched = λ x y. absurd (let z : 7 ≤ number_of p.places = h.from_seven x in omega arith);
        refused = λ x. h.looked;
        accepted = λ x. h.looked;
        means_rest = h.means_rest;
        corners = h.corners;
        found = h.found;
        best = h.best;
        counts = h.counts;
        fruitless = h.fruitless;
        untried = h.untried;
        nowhere = h.nowhere;
      }

  pub fit_ready : lowest_of (fit_tests img f a means) ≡ 0 → Ready img f a × (sampled_cells f ≤ length means)
  fit_ready e = fit_room img f a means false (clear img f short false e)

-- the lengths that it is handed are those of the areas
pub by_lengths : (img : Image) (f : FrameSpec) (m : ℕ) (wrong : Bool) {l l' : Lengths} {n : ℕ} → l ≡ l'
    → n ≡ lowest_of (picture_tests img f (fit_short img f l m) wrong) → n ≡ lowest_of (picture_tests img f (fit_short img f l' m) wrong)
by_lengths img f m wrong e h = h ∙ ap (λ (l : Lengths). lowest_of (picture_tests img f (fit_short img f l m) wrong)) e

-- corners and search of a picture and a frame by what they are
pub fit_past_as : {img img' : Image} {f f' : FrameSpec} {a b : Areas} {means means' : List Float} {p : PictureFit} → img' ≡ img → f' ≡ f
    → FitPastTests img' f' a b means means' p → FitPastTests img f a b means means' p
fit_past_as d e r = rw (sym d, sym e) r
