-- A detection, from a look and the corners. Assumes nothing.
use Prim.Native.Nat.{ℕ, ◌*◌, ◌/◌, ◌≤◌, ◌<◌}
use mathlib.Core.Path.{◌≡◌, refl, sym, ap, subst, ◌∙◌}
use mathlib.Core.Bool.{false, not, cond}
use mathlib.Core.Logic.{⊎_elim}
use mathlib.Core.List.{List}
use native.Mathlib.Omega.{arith}
use borrow.Author.Tests.{eqb-true, eqb-false}
use lib.Dec.{T, T_not, eqb}
use lib.ListN.{length, get_or}
use Rattle.base.proofs.Enumerations.{rising_once}
use Rattle.base.proofs.Tests.{either}
use Rattle.frame.specs.Image.{Image}
use Rattle.std.specs.Prelude.{Result, Ok}
use Rattle.frame.specs.Refusals.{number, number_of, Check, lowest_of, Lowest}
use Rattle.frame.specs.declared.refusals.Refusal.{Refusal}
use Rattle.frame.proofs.Given.{positive, answer_number}
use Rattle.frame.specs.declared.FrameSpec.{FrameSpec}
use Rattle.frame.specs.declared.Point.{Point}
use Rattle.frame.proofs.Lowest.{none_tested}
use Rattle.mask.specs.Mask.{mask_plane}
use Rattle.blobs.specs.Patches.{patch_at}
use Rattle.candidates.specs.Areas.{Areas, area_short, look_tests}
use Rattle.candidates.specs.Bounds.{Ready}
use Rattle.candidates.specs.Promises.{Looked}
use Rattle.candidates.specs.Ring.{center_at}
use Rattle.candidates.proofs.Refusing.{rising, lowest_six}
use Rattle.candidates.proofs.Room.{candidates_few}
use Rattle.base.proofs.Table.{length_table}
use Rattle.frame.specs.declared.Quad.{Quad}
use Rattle.fiducials.specs.Answers.{quad_at, places_at, no_quad, no_places, quad_of, places_of, corners_of}
use Rattle.fiducials.specs.declared.pick.Corner.{Corner}
use Rattle.fiducials.specs.Corners.{Outermost, pick, shared_pick, corner_tests}
use Rattle.fiducials.specs.declared.pick.Corner.TheVariants.{TL, TR, BR, BL}
use Rattle.fiducials.specs.Promises.{Undetected, MarkedBy, Cornered, place_of, centers_at, DetectionPastTests, Detection}
use Rattle.fiducials.specs.declared.Corners.{Corners}
use Rattle.fiducials.specs.declared.Places.{Places}
use Rattle.fiducials.proofs.Answering.{number_from_7, number_none, as_accepted, as_refused, quad_of_picks}
use Rattle.fiducials.proofs.Named.{same_center}
use Rattle.fiducials.proofs.Numbers.{marked_by, share, corner_lowest, tests_lowest}
use Rattle.fiducials.proofs.Outer.{picks_outermost}
use Rattle.fiducials.proofs.Picks.{pick_below}

abbrev rank : Corner → ℕ
rank TL = 0
rank TR = 1
rank BR = 2
rank BL = 3

abbrev of_rank : ℕ → Corner
of_rank n = cond (eqb n 0) TL (cond (eqb n 1) TR (cond (eqb n 2) BR BL))

of_rank_rank : (c : Corner) → of_rank (rank c) ≡ c
of_rank_rank TL = refl
of_rank_rank TR = refl
of_rank_rank BR = refl
of_rank_rank BL = refl

same_corner : (c d : Corner) → ((c ≡ d → ⊥) → ⊥) → c ≡ d
same_corner c d f = ⊎_elim
    (λ e. sym (of_rank_rank c) ∙ ap of_rank (eqb-true (rank c) (rank d) e) ∙ of_rank_rank d)
    (λ e. absurd (f (λ q. eqb-false (rank c) (rank d) e (ap rank q))))
    (either (eqb (rank c) (rank d)))

module _ (img : Image) (f : FrameSpec) (a b : Areas) (n k waited : ℕ) (R : Ready img f a) (L : Looked img f a b n k waited) where
  abbrev at : ℕ → Point
  at = center_at b.candidates

  abbrev chosen : Corner → ℕ
  chosen c = pick c at k

  abbrev place : ℕ → ℕ
  place i = get_or b.blob_index i 0

  abbrev tests : List Check
  tests = corner_tests img.w img.h at k

  module _ (o : lowest_of tests ≡ 0) where
    four : 0 < k
    four = let x = (number_none img.w img.h at k o).0 in omega arith

    below : (c : Corner) → chosen c < k
    below c = pick_below c at k four

    place_rises : (i j : ℕ) → i < k → j < k → place i ≡ place j → i ≡ j
    place_rises = rising_once place k L.candidates.ordered

    place_of_lem : (c : Corner) → place_of (places_at b.blob_index (chosen TL) (chosen TR) (chosen BR) (chosen BL)) c ≡ place (chosen c)
    unfolding place_of places_at
    place_of_lem TL = refl
    place_of_lem TR = refl
    place_of_lem BR = refl
    place_of_lem BL = refl

    no_share : T (not (shared_pick at k))
    no_share = subst (λ z. T (not z)) (sym (number_none img.w img.h at k o).1) tt

    cornered : Cornered img f b.patches L.firsts n (places_at b.blob_index (chosen TL) (chosen TR) (chosen BR) (chosen BL))
    cornered =
        record {
          listed = λ c. subst (λ z. z < n) (sym (place_of_lem c)) (L.candidates.listed (chosen c) (below c));
          different = λ c d e. same_corner c d (λ ne. T_not (shared_pick at k) no_share
              (share img f R.capture.w_most R.capture.h_most L.patches L.candidates c d ne
              (place_rises (chosen c) (chosen d) (below c) (below d) (sym (place_of_lem c) ∙ e ∙ place_of_lem d))));
          outermost = λ c. subst (λ z. Outermost img f c (get_or L.firsts z 0) (patch_at b.patches z)) (sym (place_of_lem c))
              (picks_outermost img f R.capture.w_most R.capture.h_most L.patches L.candidates c four);
        }

    centers_are : quad_at at (chosen TL) (chosen TR) (chosen BR) (chosen BL) ≡ centers_at b.patches (places_at b.blob_index (chosen TL) (chosen TR) (chosen BR) (chosen BL))
    unfolding quad_at centers_at places_at
    centers_are =
        let e0 = same_center img f L.patches L.candidates (chosen TL) (below TL) in
        let e1 = same_center img f L.patches L.candidates (chosen TR) (below TR) in
        let e2 = same_center img f L.patches L.candidates (chosen BR) (below BR) in
        let e3 = same_center img f L.patches L.candidates (chosen BL) (below BL) in
        λ i. record { tl = e0 i; tr = e1 i; br = e2 i; bl = e3 i }

    quad_marked : MarkedBy img f (quad_at at (chosen TL) (chosen TR) (chosen BR) (chosen BL))
    quad_marked = subst (λ z. MarkedBy img f z) (sym (quad_of_picks at k)) (marked_by img f R.capture.w_most R.capture.h_most L.patches L.candidates four)

  pub detecting : (r : Result Corners Refusal) → r ≡ corners_of b.candidates b.blob_index img.w img.h k
      → DetectionPastTests img f a b (number_of r) n k waited (places_of r) (quad_of r)
  unfolding corners_of
  detecting r e =
      let Q = quad_at at (chosen TL) (chosen TR) (chosen BR) (chosen BL) in
      let S = places_at b.blob_index (chosen TL) (chosen TR) (chosen BR) (chosen BL) in
      let en : number_of r ≡ lowest_of tests = ap number_of e ∙ answer_number _ tests in
      let found : number_of r ≡ 0 → r ≡ Ok (record { quad = Q; places = S }) = λ o. e ∙ as_accepted _ tests (sym en ∙ o) in
      record {
        looked = L;
        lowest = λ l no. subst (λ z. Lowest (Undetected img f l) z) (sym en)
            (corner_lowest img f R.capture.w_most R.capture.h_most L.patches L.candidates l no);
        from_seven = λ o. subst (λ z. 7 ≤ z) (sym en) (number_from_7 img.w img.h at k (subst (λ z. 1 ≤ z) en o));
        corners = λ o. subst (λ z. Cornered img f b.patches L.firsts n z) (sym (ap places_of (found o))) (cornered (sym en ∙ o));
        centers = λ o. ap quad_of (found o) ∙ centers_are (sym en ∙ o) ∙ ap (centers_at b.patches) (sym (ap places_of (found o)));
        marked = λ o. subst (λ z. MarkedBy img f z) (sym (ap quad_of (found o))) (quad_marked (sym en ∙ o));
        none = λ o. as_refused r o;
      }

-- ---- the room that `corners` asks

pub candidates_room : (img : Image) (f : FrameSpec) (a b : Areas) (n k waited : ℕ) → Ready img f a → Looked img f a b n k waited
    → (4 * k ≤ length b.candidates) × (k ≤ length b.blob_index)
unfolding mask_plane
candidates_room img f a b n k waited R L =
    let few : 32 * k ≤ length (mask_plane img f) = candidates_few L.patches L.candidates in
    let long : length (mask_plane img f) ≡ img.w * img.h = length_table _ (img.w * img.h) in
    let lc = L.candidates.c_long in
    let lp = L.candidates.p_long in
    let rc : 4 * (img.w * img.h / 32) ≤ length a.candidates = R.candidates_room in
    let rp : img.w * img.h / 32 ≤ length a.blob_index = R.places_room in
    (omega arith, omega arith)

-- ---- the public function's two ends

pub detection_refused : (img : Image) (f : FrameSpec) (a : Areas) (r : Refusal) {n k waited : ℕ} → (n ≡ 0) × ((k ≡ 0) × (waited ≡ 0))
    → number r ≡ lowest_of (look_tests img f a) → Detection img f a a (number r) n k waited no_places no_quad
detection_refused img f a r none e =
    let some = positive r in
    let six : lowest_of (look_tests img f a) ≤ 6 = lowest_six img f (area_short img a) false in
    let one : 1 ≤ lowest_of (look_tests img f a) = subst (λ z. 1 ≤ z) e some in
    record {
      refusal = subst (λ z. Lowest (Undetected img f (look_tests img f a)) z) (sym e)
          (tests_lowest img f (look_tests img f a) (rising img f (area_short img a) false) one six);
      untouched = λ x y. (refl, none.0, none.1.0, none.1.1);
      refused = λ x. absurd (omega (arith, e));
      accepted = λ x. absurd (omega arith);
      corners = λ x. absurd (omega arith);
      centers = λ x. absurd (omega arith);
      none = λ x. (refl, refl);
    }

pub detection_found : (img : Image) (f : FrameSpec) (a b : Areas) (number n k waited : ℕ) (s : Places) (q : Quad)
    → lowest_of (look_tests img f a) ≡ 0 → DetectionPastTests img f a b number n k waited s q → Detection img f a b number n k waited s q
detection_found img f a b number n k waited s q e D =
    record {
      refusal = D.lowest (look_tests img f a) (none_tested (look_tests img f a) (rising img f (area_short img a) false) e);
      untouched = λ x y. absurd (let z = D.from_seven x in omega arith);
      refused = λ x. D.looked;
      accepted = λ x. D.looked;
      corners = λ x. D.corners x;
      centers = λ x. D.centers x;
      none = λ x. D.none x;
    }

-- a detection of a picture and a frame by what they are
pub past_tests_as : {img img' : Image} {f f' : FrameSpec} {a b : Areas} {number n k waited : ℕ} {s : Places} {q : Quad} → img' ≡ img → f' ≡ f
    → DetectionPastTests img' f' a b number n k waited s q → DetectionPastTests img f a b number n k waited s q
past_tests_as d e r = rw (sym d, sym e) r
