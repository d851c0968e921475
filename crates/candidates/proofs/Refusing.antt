-- The tests of a call on a picture: their numbers, and what is known where none of them holds. Assumes nothing.
use Prim.Native.Nat.{ℕ, ◌≤◌}
use mathlib.Core.Path.{◌≡◌, refl, ap, ◌∙◌}
use mathlib.Core.Bool.{Bool, true, false, cond, ◌||◌}
use mathlib.Core.Logic.{inl, inr}
use native.Mathlib.Omega.{arith}
use borrow.Author.Tests.{ltb-false}
use lib.Dec.{ltb}
use Rattle.frame.specs.Image.{Image}
use Rattle.frame.specs.Limits.{FrameHeld, CaptureHeld}
use Rattle.frame.specs.Refusals.{Lowest, Tested, lowest_of, frame_outside, capture_wrong, capture_small}
use Rattle.frame.specs.Refusals.Lowest.{accepted, refused}
use Rattle.frame.specs.declared.FrameSpec.{FrameSpec}
use Rattle.frame.proofs.Held.{frame_held, capture_held}
use Rattle.frame.proofs.Lowest.{Rising, lowest_of_lem, none_tested}
use Rattle.base.proofs.Tests.{or_left, or_right, fails}
use Rattle.markers.specs.Layout.{no_layout}
use Rattle.candidates.specs.Areas.{Areas, lengths_of, smallest, shorter, area_short, picture_tests, look_tests}
use Rattle.candidates.specs.Bounds.{Ready}
use Rattle.candidates.specs.declared.Lengths.{Lengths}

-- what is known where no test holds
pub record Clear (img : Image) (f : FrameSpec) (short wrong : Bool) : Type 0 where
  pub frame : FrameHeld f
  pub capture : CaptureHeld img
  pub long : short ≡ false
  pub right : wrong ≡ false
  pub layout : no_layout f ≡ false
  pub wide : 32 ≤ img.w
  pub high : 32 ≤ img.h

module _ (img : Image) (f : FrameSpec) (short wrong : Bool) where
  pub rising : Rising 0 (picture_tests img f short wrong)
  unfolding picture_tests
  rising = (omega arith, (omega arith, (omega arith, (omega arith, (omega arith, (omega arith, tt))))))

  pub upto_six : (n : ℕ) → Tested n (picture_tests img f short wrong) → n ≤ 6
  unfolding picture_tests
  upto_six n (inl t) = omega (arith, t.0)
  upto_six n (inr (inl t)) = omega (arith, t.0)
  upto_six n (inr (inr (inl t))) = omega (arith, t.0)
  upto_six n (inr (inr (inr (inl t)))) = omega (arith, t.0)
  upto_six n (inr (inr (inr (inr (inl t))))) = omega (arith, t.0)
  upto_six n (inr (inr (inr (inr (inr (inl t)))))) = omega (arith, t.0)
  upto_six n (inr (inr (inr (inr (inr (inr t)))))) = absurd t

  pub lowest_six : lowest_of (picture_tests img f short wrong) ≤ 6
  lowest_six = go (lowest_of_lem 0 (picture_tests img f short wrong) rising)
    where
      go : Lowest (λ n. Tested n (picture_tests img f short wrong)) (lowest_of (picture_tests img f short wrong)) → lowest_of (picture_tests img f short wrong) ≤ 6
      go (accepted e g) = omega (arith, e)
      go (refused t g) = upto_six _ t

  pub clear : lowest_of (picture_tests img f short wrong) ≡ 0 → Clear img f short wrong
  unfolding picture_tests capture_small
  clear e =
      let none = none_tested (picture_tests img f short wrong) rising e in
      let small : (ltb img.w 32 || ltb img.h 32) ≡ false = fails _ (λ t. none 6 (inr (inr (inr (inr (inr (inl (refl, t)))))))) in
      record {
        frame = frame_held f (fails _ (λ t. none 1 (inl (refl, t))));
        capture = capture_held img (fails _ (λ t. none 2 (inr (inl (refl, t)))));
        long = fails _ (λ t. none 3 (inr (inr (inl (refl, t)))));
        right = fails _ (λ t. none 4 (inr (inr (inr (inl (refl, t))))));
        layout = fails _ (λ t. none 5 (inr (inr (inr (inr (inl (refl, t)))))));
        wide = ltb-false _ _ (or_left (ltb img.w 32) (ltb img.h 32) small);
        high = ltb-false _ _ (or_right (ltb img.w 32) (ltb img.h 32) small);
      }

-- 3 and 4 matter only where 1 and 2 do not apply
abbrev ladder : Bool → Bool → Bool → Bool → ℕ → ℕ
ladder p q s w n = cond p 1 (cond q 2 (cond s 3 (cond w 4 n)))

pub tests_agree : (img : Image) (f : FrameSpec) (s w s' w' : Bool) → (frame_outside f ≡ false → capture_wrong img ≡ false → (s ≡ s') × (w ≡ w'))
    → lowest_of (picture_tests img f s w) ≡ lowest_of (picture_tests img f s' w')
unfolding picture_tests lowest_of
tests_agree img f s w s' w' h = go (frame_outside f) refl (capture_wrong img) refl (cond (no_layout f) 5 (cond (capture_small img) 6 0))
  where
    go : (p : Bool) → frame_outside f ≡ p → (q : Bool) → capture_wrong img ≡ q → (n : ℕ) → ladder p q s w n ≡ ladder p q s' w' n
    go true e q d n = refl
    go false e true d n = refl
    go false e false d n = let x = h e d in λ i. ladder false false (x.0 i) (x.1 i) n

-- a look's tests, by the lengths of its areas
pub by_lengths : (img : Image) (f : FrameSpec) (a : Areas) (l : Lengths) {n : ℕ} → l ≡ lengths_of a
    → n ≡ lowest_of (picture_tests img f (shorter l (smallest img.w img.h)) false) → n ≡ lowest_of (look_tests img f a)
by_lengths img f a l e g = g ∙ ap (λ z. lowest_of (picture_tests img f (shorter z (smallest img.w img.h)) false)) e

-- ---- the areas of a look

-- no area is shorter
pub record Long (l s : Lengths) : Type 0 where
  pub luma : s.luma ≤ l.luma
  pub integral : s.integral ≤ l.integral
  pub mask : s.mask ≤ l.mask
  pub seen : s.seen ≤ l.seen
  pub waiting : s.waiting ≤ l.waiting
  pub patches : s.patches ≤ l.patches
  pub candidates : s.candidates ≤ l.candidates
  pub places : s.blob_index ≤ l.blob_index

pub long_enough : (l s : Lengths) → shorter l s ≡ false → Long l s
unfolding shorter
long_enough l s e =
    let t1 = ltb l.luma s.luma in
    let t2 = ltb l.integral s.integral in
    let t3 = ltb l.mask s.mask in
    let t4 = ltb l.seen s.seen in
    let t5 = ltb l.waiting s.waiting in
    let t6 = ltb l.patches s.patches in
    let t7 = ltb l.candidates s.candidates in
    let t8 = ltb l.blob_index s.blob_index in
    let e7 = or_left (t1 || t2 || t3 || t4 || t5 || t6 || t7) t8 e in
    let e6 = or_left (t1 || t2 || t3 || t4 || t5 || t6) t7 e7 in
    let e5 = or_left (t1 || t2 || t3 || t4 || t5) t6 e6 in
    let e4 = or_left (t1 || t2 || t3 || t4) t5 e5 in
    let e3 = or_left (t1 || t2 || t3) t4 e4 in
    let e2 = or_left (t1 || t2) t3 e3 in
    record {
      luma = ltb-false _ _ (or_left t1 t2 e2);
      integral = ltb-false _ _ (or_right t1 t2 e2);
      mask = ltb-false _ _ (or_right (t1 || t2) t3 e3);
      seen = ltb-false _ _ (or_right (t1 || t2 || t3) t4 e4);
      waiting = ltb-false _ _ (or_right (t1 || t2 || t3 || t4) t5 e5);
      patches = ltb-false _ _ (or_right (t1 || t2 || t3 || t4 || t5) t6 e6);
      candidates = ltb-false _ _ (or_right (t1 || t2 || t3 || t4 || t5 || t6) t7 e7);
      places = ltb-false _ _ (or_right (t1 || t2 || t3 || t4 || t5 || t6 || t7) t8 e);
    }

-- where no test holds and no area is too short, a look has what it asks
pub ready_of : (img : Image) (f : FrameSpec) (a : Areas) {short wrong : Bool} → Clear img f short wrong → area_short img a ≡ false → Ready img f a
unfolding smallest
ready_of img f a c e =
    let long = long_enough (lengths_of a) (smallest img.w img.h) e in
    record {
      frame = c.frame;
      capture = c.capture;
      layout = c.layout;
      wide = c.wide;
      high = c.high;
      luma_room = long.luma;
      integral_room = long.integral;
      mask_room = long.mask;
      seen_room = long.seen;
      waiting_room = long.waiting;
      patches_room = long.patches;
      candidates_room = long.candidates;
      places_room = long.places;
    }
