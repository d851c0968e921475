-- From what a call works out to the lowest number by meaning. Assumes nothing.
use mathlib.Core.Path.{◌≡◌, refl, sym, subst, ◌∙◌}
use mathlib.Core.Bool.{Bool, true, false, not, cond, ◌||◌}
use mathlib.Core.Logic.{⊎_elim}
use mathlib.Core.List.{List}
use Prim.Native.Nat.{ℕ, ◌≤◌, ◌<◌}
use native.Mathlib.Omega.{arith}
use lib.Dec.{T, ltb, eqb, ltb→lt, nltb→le, eqb→eq, T_not}
use lib.Ieee.{Float}
use lib.Ieee.Fits.{eq→eqb}
use lib.ListN.{get_or}
use Rattle.frame.specs.declared.FrameSpec.{FrameSpec}
use Rattle.frame.specs.declared.Point.{Point}
use Rattle.frame.specs.declared.Quad.{Quad}
use Rattle.frame.specs.Image.{Image}
use Rattle.sampling.specs.Luma.{luma_plane}
use Rattle.mask.specs.Mask.{mask_plane}
use Rattle.blobs.specs.Patches.{PatchList, patch_at}
use Rattle.candidates.specs.Ring.{CandidateList}
use Rattle.fiducials.specs.declared.pick.Corner.{Corner}
use Rattle.fiducials.specs.Corners.{Outermost, pick, picked_quad, shared_pick, one_way, too_small, corner_tests}
use Rattle.fiducials.specs.declared.pick.Corner.TheVariants.{TL, TR, BR, BL}
use Rattle.frame.specs.Refusals.{Check, Tested, lowest_of, Lowest}
use Rattle.fiducials.specs.Promises.{Undetected, FourPass, Shared, MarkedBy}
use Rattle.frame.specs.Refusals.Lowest.{accepted, refused}
use Rattle.fiducials.specs.Promises.Undetected.{tested, few, shared, crooked}
use Rattle.base.proofs.Arith.{le_or_lt}
use Rattle.base.proofs.Tests.{or_l, or_r, or_either}
use Rattle.base.proofs.Enumerations.{rising_once}
use Rattle.frame.proofs.Lowest.{Rising, lowest_of_lem}
use Rattle.fiducials.proofs.Unique.{outermost_unique, marked_unique}
use Rattle.fiducials.proofs.Picks.{pick_below}
use Rattle.fiducials.proofs.Named.{candidate_center, place, same_center, candidate_passes, found, earlier}
use Rattle.fiducials.proofs.Outer.{picks_outermost}

-- one of six
in_1 : (a b c d e g : Bool) → T a → T (a || b || c || d || e || g)
in_1 a b c d e g t = or_l (a || b || c || d || e) g (or_l (a || b || c || d) e (or_l (a || b || c) d (or_l (a || b) c (or_l a b t))))

in_2 : (a b c d e g : Bool) → T b → T (a || b || c || d || e || g)
in_2 a b c d e g t = or_l (a || b || c || d || e) g (or_l (a || b || c || d) e (or_l (a || b || c) d (or_l (a || b) c (or_r a b t))))

in_3 : (a b c d e g : Bool) → T c → T (a || b || c || d || e || g)
in_3 a b c d e g t = or_l (a || b || c || d || e) g (or_l (a || b || c || d) e (or_l (a || b || c) d (or_r (a || b) c t)))

in_4 : (a b c d e g : Bool) → T d → T (a || b || c || d || e || g)
in_4 a b c d e g t = or_l (a || b || c || d || e) g (or_l (a || b || c || d) e (or_r (a || b || c) d t))

in_5 : (a b c d e g : Bool) → T e → T (a || b || c || d || e || g)
in_5 a b c d e g t = or_l (a || b || c || d || e) g (or_r (a || b || c || d) e t)

in_6 : (a b c d e g : Bool) → T g → T (a || b || c || d || e || g)
in_6 a b c d e g t = or_r (a || b || c || d || e) g t

-- ---- 1 to 6: the first test that holds gives the number
pub tests_lowest : (img : Image) (f : FrameSpec) (l : List Check) → Rising 0 l → 1 ≤ lowest_of l → lowest_of l ≤ 6 → Lowest (Undetected img f l) (lowest_of l)
tests_lowest img f l r h k = go (lowest_of_lem 0 l r)
  where
    lower : ((n : ℕ) → n < lowest_of l → Tested n l → ⊥) → (n : ℕ) → n < lowest_of l → Undetected img f l n → ⊥
    lower g n a (tested t) = g n a t
    lower g n a (few e x) = omega arith
    lower g n a (shared e x) = omega arith
    lower g n a (crooked e q x y) = omega arith

    go : Lowest (λ n. Tested n l) (lowest_of l) → Lowest (Undetected img f l) (lowest_of l)
    go (accepted e g) = absurd (omega arith)
    go (refused t g) = refused (tested t) (lower g)

module _ (img : Image) (f : FrameSpec) (w_held : img.w ≤ 4096) (h_held : img.h ≤ 4096) {l l' : List ℕ} {n : ℕ} {firsts : List ℕ} {c c' : List Float} {p p' : List ℕ} {k : ℕ}
    (patches : PatchList (mask_plane img f) img.w l l' n firsts)
    (candidates : CandidateList (mask_plane img f) (luma_plane img) img.w img.h (patch_at l') n c p c' p' k) where
  abbrev pub center_of : ℕ → Point
  center_of = candidate_center img f patches candidates

  abbrev placed : ℕ → ℕ
  placed = place img f patches candidates

  abbrev first_at : ℕ → ℕ
  first_at i = get_or firsts (placed i) 0

  -- ---- 7: fewer than four candidates are listed exactly when no four patches pass
  rises : (i j : ℕ) → i < j → j < k → first_at i < first_at j
  rises i j h r = patches.ordered (placed i) (placed j) (candidates.ordered i j h r) (candidates.listed j r)

  pub four_pass : 4 ≤ k → FourPass img f
  four_pass h =
      record {
        p0 = first_at 0;
        p1 = first_at 1;
        p2 = first_at 2;
        p3 = first_at 3;
        t0 = patch_at l' (placed 0);
        t1 = patch_at l' (placed 1);
        t2 = patch_at l' (placed 2);
        t3 = patch_at l' (placed 3);
        pass0 = candidate_passes img f patches candidates 0 (omega arith);
        pass1 = candidate_passes img f patches candidates 1 (omega arith);
        pass2 = candidate_passes img f patches candidates 2 (omega arith);
        pass3 = candidate_passes img f patches candidates 3 (omega arith);
        differ01 = rises 0 1 (omega arith) (omega arith);
        differ12 = rises 1 2 (omega arith) (omega arith);
        differ23 = rises 2 3 (omega arith) (omega arith);
      }

  -- the candidates of two patches stand as the patches do
  stand : (i j : ℕ) → i < k → first_at i < first_at j → i < j
  stand i j h r = ⊎_elim (λ a. absurd (let z : first_at j ≤ first_at i = earlier img f patches candidates j i a h in omega arith)) (λ a. a) (le_or_lt j i)

  pub pass_four : FourPass img f → 4 ≤ k
  pass_four h =
      let a = found img f patches candidates h.p0 h.t0 h.pass0 in
      let b = found img f patches candidates h.p1 h.t1 h.pass1 in
      let d = found img f patches candidates h.p2 h.t2 h.pass2 in
      let e = found img f patches candidates h.p3 h.t3 h.pass3 in
      let x : a.0 < b.0 = stand a.0 b.0 a.1 (subst (λ z. z < first_at b.0) (sym a.2) (subst (λ z. h.p0 < z) (sym b.2) h.differ01)) in
      let y : b.0 < d.0 = stand b.0 d.0 b.1 (subst (λ z. z < first_at d.0) (sym b.2) (subst (λ z. h.p1 < z) (sym d.2) h.differ12)) in
      let w : d.0 < e.0 = stand d.0 e.0 d.1 (subst (λ z. z < first_at e.0) (sym d.2) (subst (λ z. h.p2 < z) (sym e.2) h.differ23)) in
      let v : e.0 < k = e.1 in
      omega arith

  -- ---- the picks
  abbrev pub chosen : Corner → ℕ
  chosen d = pick d center_of k

  chosen_outermost : 0 < k → (d : Corner) → Outermost img f d (first_at (chosen d)) (patch_at l' (placed (chosen d)))
  chosen_outermost h d = picks_outermost img f w_held h_held patches candidates d h

  pub marked_by : 0 < k → MarkedBy img f (picked_quad center_of k)
  unfolding picked_quad
  marked_by h =
      record {
        p = λ d. first_at (chosen d);
        t = λ d. patch_at l' (placed (chosen d));
        outermost = chosen_outermost h;
        centers = λ i. record {
          tl = same_center img f patches candidates (chosen TL) (pick_below TL center_of k h) i;
          tr = same_center img f patches candidates (chosen TR) (pick_below TR center_of k h) i;
          br = same_center img f patches candidates (chosen BR) (pick_below BR center_of k h) i;
          bl = same_center img f patches candidates (chosen BL) (pick_below BL center_of k h) i;
        };
      }

  -- ---- 8: two picks are one candidate exactly when one patch is outermost toward two corners
  same_candidate : (i j : ℕ) → i < k → j < k → first_at i ≡ first_at j → i ≡ j
  same_candidate = rising_once first_at k rises

  pub one_patch : 0 < k → (s : Shared img f) → chosen s.c ≡ chosen s.d
  one_patch h s =
      same_candidate (chosen s.c) (chosen s.d) (pick_below s.c center_of k h) (pick_below s.d center_of k h)
      (outermost_unique img f s.c _ _ _ _ (chosen_outermost h s.c) s.outermost_c
      ∙ sym (outermost_unique img f s.d _ _ _ _ (chosen_outermost h s.d) s.outermost_d))

  pub one_candidate : 0 < k → (d e : Corner) → (d ≡ e → ⊥) → chosen d ≡ chosen e → Shared img f
  one_candidate h d e differ same =
      record {
        p = first_at (chosen d);
        t = patch_at l' (placed (chosen d));
        c = d;
        d = e;
        differ = differ;
        outermost_c = chosen_outermost h d;
        outermost_d = subst (λ z. Outermost img f e (first_at z) (patch_at l' (placed z))) (sym same) (chosen_outermost h e);
      }

  -- .. as a test
  share_1 : chosen TL ≡ chosen TR → T (shared_pick center_of k)
  unfolding shared_pick
  share_1 h = in_1 (eqb (chosen TL) (chosen TR)) (eqb (chosen TL) (chosen BR)) (eqb (chosen TL) (chosen BL)) (eqb (chosen TR) (chosen BR))
      (eqb (chosen TR) (chosen BL)) (eqb (chosen BR) (chosen BL)) (eq→eqb h)

  share_2 : chosen TL ≡ chosen BR → T (shared_pick center_of k)
  unfolding shared_pick
  share_2 h = in_2 (eqb (chosen TL) (chosen TR)) (eqb (chosen TL) (chosen BR)) (eqb (chosen TL) (chosen BL)) (eqb (chosen TR) (chosen BR))
      (eqb (chosen TR) (chosen BL)) (eqb (chosen BR) (chosen BL)) (eq→eqb h)

  share_3 : chosen TL ≡ chosen BL → T (shared_pick center_of k)
  unfolding shared_pick
  share_3 h = in_3 (eqb (chosen TL) (chosen TR)) (eqb (chosen TL) (chosen BR)) (eqb (chosen TL) (chosen BL)) (eqb (chosen TR) (chosen BR))
      (eqb (chosen TR) (chosen BL)) (eqb (chosen BR) (chosen BL)) (eq→eqb h)

  share_4 : chosen TR ≡ chosen BR → T (shared_pick center_of k)
  unfolding shared_pick
  share_4 h = in_4 (eqb (chosen TL) (chosen TR)) (eqb (chosen TL) (chosen BR)) (eqb (chosen TL) (chosen BL)) (eqb (chosen TR) (chosen BR))
      (eqb (chosen TR) (chosen BL)) (eqb (chosen BR) (chosen BL)) (eq→eqb h)

  share_5 : chosen TR ≡ chosen BL → T (shared_pick center_of k)
  unfolding shared_pick
  share_5 h = in_5 (eqb (chosen TL) (chosen TR)) (eqb (chosen TL) (chosen BR)) (eqb (chosen TL) (chosen BL)) (eqb (chosen TR) (chosen BR))
      (eqb (chosen TR) (chosen BL)) (eqb (chosen BR) (chosen BL)) (eq→eqb h)

  share_6 : chosen BR ≡ chosen BL → T (shared_pick center_of k)
  unfolding shared_pick
  share_6 h = in_6 (eqb (chosen TL) (chosen TR)) (eqb (chosen TL) (chosen BR)) (eqb (chosen TL) (chosen BL)) (eqb (chosen TR) (chosen BR))
      (eqb (chosen TR) (chosen BL)) (eqb (chosen BR) (chosen BL)) (eq→eqb h)

  pub share : (d e : Corner) → (d ≡ e → ⊥) → chosen d ≡ chosen e → T (shared_pick center_of k)
  share TL TL n h = absurd (n refl)
  share TL TR n h = share_1 h
  share TL BR n h = share_2 h
  share TL BL n h = share_3 h
  share TR TL n h = share_1 (sym h)
  share TR TR n h = absurd (n refl)
  share TR BR n h = share_4 h
  share TR BL n h = share_5 h
  share BR TL n h = share_2 (sym h)
  share BR TR n h = share_4 (sym h)
  share BR BR n h = absurd (n refl)
  share BR BL n h = share_6 h
  share BL TL n h = share_3 (sym h)
  share BL TR n h = share_5 (sym h)
  share BL BR n h = share_6 (sym h)
  share BL BL n h = absurd (n refl)

  two_of : 0 < k → T (shared_pick center_of k) → Shared img f
  unfolding shared_pick
  two_of h t = ⊎_elim
      (λ a. ⊎_elim
      (λ b. ⊎_elim
      (λ c. ⊎_elim
      (λ d. ⊎_elim
      (λ e. of TL TR (λ q. cc) e)
      (λ e. of TL BR (λ q. cc) e)
      (or_either (eqb (chosen TL) (chosen TR)) (eqb (chosen TL) (chosen BR)) d))
      (λ d. of TL BL (λ q. cc) d)
      (or_either (eqb (chosen TL) (chosen TR) || eqb (chosen TL) (chosen BR)) (eqb (chosen TL) (chosen BL)) c))
      (λ c. of TR BR (λ q. cc) c)
      (or_either (eqb (chosen TL) (chosen TR) || eqb (chosen TL) (chosen BR) || eqb (chosen TL) (chosen BL)) (eqb (chosen TR) (chosen BR)) b))
      (λ b. of TR BL (λ q. cc) b)
      (or_either (eqb (chosen TL) (chosen TR) || eqb (chosen TL) (chosen BR) || eqb (chosen TL) (chosen BL) || eqb (chosen TR) (chosen BR))
      (eqb (chosen TR) (chosen BL)) a))
      (λ a. of BR BL (λ q. cc) a)
      (or_either (eqb (chosen TL) (chosen TR) || eqb (chosen TL) (chosen BR) || eqb (chosen TL) (chosen BL) || eqb (chosen TR) (chosen BR) ||
      eqb (chosen TR) (chosen BL)) (eqb (chosen BR) (chosen BL)) t)
    where
      of : (d e : Corner) → (d ≡ e → ⊥) → T (eqb (chosen d) (chosen e)) → Shared img f
      of d e n t = one_candidate h d e n (eqb→eq (chosen d) (chosen e) t)

  -- ---- 7 to 9, and acceptance: where no test holds, the number worked out is the lowest
  module _ (tests : List Check) (no_test : (j : ℕ) → Tested j tests → ⊥) where
    -- the quadrilateral of the condition is that of the picks
    the_quad : 0 < k → (q : Quad) → MarkedBy img f q → q ≡ picked_quad center_of k
    the_quad h q m = marked_unique img f q (picked_quad center_of k) m (marked_by h)

    abbrev bad_quad : Quad → Bool
    bad_quad q = not (one_way q) || too_small img.w img.h q

    pub corner_lowest : Lowest (Undetected img f tests) (lowest_of (corner_tests img.w img.h center_of k))
    unfolding corner_tests lowest_of
    corner_lowest = seven (ltb k 4) (ltb→lt k 4) (nltb→le k 4)
      where
        tests_only : (j : ℕ) → j < 7 → Undetected img f tests j → ⊥
        tests_only j a (tested t) = no_test j t
        tests_only j a (few e x) = omega arith
        tests_only j a (shared e x) = omega arith
        tests_only j a (crooked e q x y) = omega arith

        to_8 : 4 ≤ k → (j : ℕ) → j < 8 → Undetected img f tests j → ⊥
        to_8 h j a (tested t) = no_test j t
        to_8 h j a (few e x) = x (four_pass h)
        to_8 h j a (shared e x) = omega arith
        to_8 h j a (crooked e q x y) = omega arith

        to_9 : 4 ≤ k → T (not (shared_pick center_of k)) → (j : ℕ) → j < 9 → Undetected img f tests j → ⊥
        to_9 h s j a (tested t) = no_test j t
        to_9 h s j a (few e x) = x (four_pass h)
        to_9 h s j a (shared e x) = T_not (shared_pick center_of k) s (share x.c x.d x.differ (one_patch (omega arith) x))
        to_9 h s j a (crooked e q x y) = omega arith

        none : 4 ≤ k → T (not (shared_pick center_of k)) → T (not (bad_quad (picked_quad center_of k))) → (j : ℕ) → Undetected img f tests j → ⊥
        none h s b j (tested t) = no_test j t
        none h s b j (few e x) = x (four_pass h)
        none h s b j (shared e x) = T_not (shared_pick center_of k) s (share x.c x.d x.differ (one_patch (omega arith) x))
        none h s b j (crooked e q x y) = T_not (bad_quad (picked_quad center_of k)) b (subst (λ z. T (bad_quad z)) (the_quad (omega arith) q x) y)

        nine : 4 ≤ k → T (not (shared_pick center_of k)) → (t : Bool) → (T t → T (bad_quad (picked_quad center_of k))) → (T (not t)
            → T (not (bad_quad (picked_quad center_of k)))) → Lowest (Undetected img f tests) (cond t 9 0)
        nine h s true y n = refused (crooked refl (picked_quad center_of k) (marked_by (omega arith)) (y tt)) (to_9 h s)
        nine h s false y n = accepted refl (none h s (n tt))

        eight : 4 ≤ k → (t : Bool) → (T t → T (shared_pick center_of k)) → (T (not t) → T (not (shared_pick center_of k)))
            → Lowest (Undetected img f tests) (cond t 8 (cond (bad_quad (picked_quad center_of k)) 9 0))
        eight h true y n = refused (shared refl (two_of (omega arith) (y tt))) (to_8 h)
        eight h false y n = nine h (n tt) (bad_quad (picked_quad center_of k)) (λ t. t) (λ t. t)

        seven : (t : Bool) → (T t → k < 4) → (T (not t) → 4 ≤ k) → Lowest (Undetected img f tests) (cond t 7 (cond (shared_pick center_of k) 8 (cond (bad_quad (picked_quad center_of k)) 9 0)))
        seven true y n = refused (few refl (λ x. let a : 4 ≤ k = pass_four x in let b : k < 4 = y tt in omega arith)) tests_only
        seven false y n = eight (n tt) (shared_pick center_of k) (λ t. t) (λ t. t)
