-- The answers of the functions behind `detect_fiducials`. Assumes nothing.
use Prim.Native.Nat.{ℕ, ◌≤◌, ◌<◌}
use mathlib.Core.Path.{◌≡◌, refl, sym, ap, subst, ◌∙◌}
use mathlib.Core.Bool.{Bool, true, false, not, cond, ◌||◌}
use mathlib.Core.List.{List, [], ◌∷◌}
use native.Mathlib.Omega.{arith}
use borrow.Author.Tests.{lt-ltb, le-ltb, ltb-false}
use lib.Dec.{ltb, eqb}
use lib.Ieee.{Float, lt}
use Rattle.std.specs.Prelude.{Result, Ok, Err}
use Rattle.base.specs.Loops.{turns}
use Rattle.base.proofs.Pick.{pick_yes, pick_no}
use Rattle.float.specs.Floats.{◌⊕◌, ◌⊖◌}
use Rattle.float.proofs.Ordering.{lt_neg}
use Rattle.frame.specs.Refusals.{number, number_of, Check, lowest_of, answer_for}
use Rattle.frame.specs.declared.Point.{Point}
use Rattle.frame.specs.declared.Quad.{Quad}
use Rattle.frame.specs.declared.refusals.Refusal.{Refusal}
use Rattle.frame.specs.declared.refusals.Refusal.TheVariants.{FewCandidates, SharedCandidate, Crooked}
use Rattle.frame.proofs.Given.{answer_first, answer_next, answer_none, positive}
use Rattle.candidates.specs.Ring.{center_at}
use Rattle.fiducials.specs.Answers.{key_of, quad_at, places_at, no_quad, no_places, quad_of, places_of, corners_of}
use Rattle.fiducials.specs.Corners.{key, further, pick_step, pick, one_way, too_small, picked_quad, shared_pick, corner_tests}
use Rattle.fiducials.specs.declared.Corners.{Corners}
use Rattle.fiducials.specs.declared.Places.{Places}
use Rattle.fiducials.specs.declared.pick.Corner.{Corner}
use Rattle.fiducials.specs.declared.pick.Corner.TheVariants.{TL, TR, BR, BL}
use Rattle.fiducials.proofs.Picks.{pick_upto, pick_below}

-- further out is the lesser key
further_key : (c : Corner) (p q : Point) → further c p q ≡ lt (key_of c p) (key_of c q)
unfolding further key key_of
further_key TL p q = refl
further_key TR p q = sym (lt_neg (q.x ⊖ q.y) (p.x ⊖ p.y))
further_key BR p q = sym (lt_neg (q.x ⊕ q.y) (p.x ⊕ p.y))
further_key BL p q = refl

module _ (c : Corner) (p : ℕ → Point) (i best : ℕ) (a b : Float) (ea : a ≡ key_of c (p i)) (eb : b ≡ key_of c (p best)) where
  same_test : further c (p i) (p best) ≡ lt a b
  same_test = further_key c (p i) (p best) ∙ sym (ap (λ z. lt z b) ea ∙ ap (λ z. lt (key_of c (p i)) z) eb)

  pub step_taken : lt a b ≡ true → i ≡ pick_step c p i best
  step_taken e = pick_yes _ i best (same_test ∙ e)

  pub step_left : lt a b ≡ false → best ≡ pick_step c p i best
  step_left e = pick_no _ i best (same_test ∙ e)

-- the pick of the first i is at most i
pub upto : (c : Corner) (p : ℕ → Point) (i b : ℕ) → b ≡ turns i (pick_step c p) 0 → b ≤ i
upto c p i b e = subst (λ z. z ≤ i) (sym e) (pick_upto c p i)

-- ---- the number

module _ (w h : ℕ) (p : ℕ → Point) (k : ℕ) where
  abbrev bad : Bool
  bad = not (one_way (picked_quad p k)) || too_small w h (picked_quad p k)

  -- from 7 on, or 0
  pub number_from_7 : 1 ≤ lowest_of (corner_tests w h p k) → 7 ≤ lowest_of (corner_tests w h p k)
  unfolding corner_tests lowest_of
  number_from_7 o = go (ltb k 4) (shared_pick p k) bad o
    where
      go : (a b c : Bool) → 1 ≤ cond a 7 (cond b 8 (cond c 9 0)) → 7 ≤ cond a 7 (cond b 8 (cond c 9 0))
      go true b c o = omega arith
      go false true c o = omega arith
      go false false true o = omega arith
      go false false false o = absurd (omega arith)

  -- where it is 0 there are four candidates, and no two of the picks are one
  pub number_none : lowest_of (corner_tests w h p k) ≡ 0 → (4 ≤ k) × (shared_pick p k ≡ false)
  unfolding corner_tests lowest_of
  number_none o = let e = go (ltb k 4) (shared_pick p k) bad o in (ltb-false k 4 e.0, e.1)
    where
      go : (a b c : Bool) → ◌≡◌ {A = ℕ} (cond a 7 (cond b 8 (cond c 9 0))) 0 → (a ≡ false) × (b ≡ false)
      go true b c o = absurd (omega arith)
      go false true c o = absurd (omega arith)
      go false false c o = (refl, refl)

-- ---- the answer

pub as_accepted : {A : Type 0} (v : A) (l : List Check) → lowest_of l ≡ 0 → answer_for l v ≡ Ok v
unfolding lowest_of answer_for
as_accepted v [] e = refl
as_accepted {A = A} v (c ∷ l) e = go c.holds (as_accepted v l) e
  where
    go : (b : Bool) → (lowest_of l ≡ 0 → answer_for l v ≡ Ok v) → cond b (number c.refusal) (lowest_of l) ≡ 0 → cond b (Err c.refusal) (answer_for l v) ≡ Ok v
    go true f d = absurd (let some = positive c.refusal in omega arith)
    go false f d = f d

pub as_refused : (r : Result Corners Refusal) → 1 ≤ number_of r → (quad_of r ≡ no_quad) × (places_of r ≡ no_places)
as_refused (Ok c) o = absurd (omega arith)
as_refused (Err e) o = (refl, refl)

pub quad_of_picks : (p : ℕ → Point) (k : ℕ) → quad_at p (pick TL p k) (pick TR p k) (pick BR p k) (pick BL p k) ≡ picked_quad p k
unfolding quad_at picked_quad
quad_of_picks p k = refl

-- ---- `corners`, and from the picks that it made

pub corners_few : (c : List Float) (l : List ℕ) (w h k : ℕ) → k < 4 → Err FewCandidates ≡ corners_of c l w h k
unfolding corners_of corner_tests
corners_few c l w h k a = answer_first _ _ _ _ (lt-ltb k 4 a)

module _ (c : List Float) (l : List ℕ) (w h k tl tr br bl : ℕ) (e0 : tl ≡ pick TL (center_at c) k) (e1 : tr ≡ pick TR (center_at c) k)
    (e2 : br ≡ pick BR (center_at c) k) (e3 : bl ≡ pick BL (center_at c) k) where
  abbrev at : ℕ → Point
  at = center_at c

  module _ (four : 4 ≤ k) where
    -- a pick is one of the candidates
    pub listed : (tl < k) × (tr < k) × (br < k) × (bl < k)
    listed =
        let one : (d : Corner) (x : ℕ) → x ≡ pick d at k → x < k = λ d x e. subst (λ z. z < k) (sym e) (pick_below d at k (omega arith)) in
        (one TL tl e0, one TR tr e1, one BR br e2, one BL bl e3)

    module _ (s : Bool) (es : s ≡ (eqb tl tr || eqb tl br || eqb tl bl || eqb tr br || eqb tr bl || eqb br bl)) where
      shared_is : s ≡ shared_pick at k
      unfolding shared_pick
      shared_is = es ∙ (λ i. eqb (e0 i) (e1 i) || eqb (e0 i) (e2 i) || eqb (e0 i) (e3 i) || eqb (e1 i) (e2 i) || eqb (e1 i) (e3 i) || eqb (e2 i) (e3 i))

      pub corners_shared : s ≡ true → Err SharedCandidate ≡ corners_of c l w h k
      unfolding corners_of corner_tests
      corners_shared t = answer_next _ _ _ _ (le-ltb k 4 four) (answer_first _ _ _ _ (sym shared_is ∙ t))

      module _ (apart : s ≡ false) (q : Quad) (eq : q ≡ quad_at at tl tr br bl) (o z : Bool) (eo : o ≡ one_way q) (ez : z ≡ too_small w h q) where
        quad_is : q ≡ quad_at at (pick TL at k) (pick TR at k) (pick BR at k) (pick BL at k)
        quad_is = eq ∙ (λ i. quad_at at (e0 i) (e1 i) (e2 i) (e3 i))

        crooked_is : (not o || z) ≡ (not (one_way (picked_quad at k)) || too_small w h (picked_quad at k))
        crooked_is =
            let d = quad_is ∙ quad_of_picks at k in
            let x = eo ∙ ap one_way d in
            let y = ez ∙ ap (too_small w h) d in
            λ i. not (x i) || y i

        pub corners_crooked : (not o || z) ≡ true → Err Crooked ≡ corners_of c l w h k
        unfolding corners_of corner_tests
        corners_crooked t =
            answer_next _ _ _ _ (le-ltb k 4 four) (answer_next _ _ _ _ (sym shared_is ∙ apart) (answer_first _ _ _ _ (sym crooked_is ∙ t)))

        pub corners_found : (not o || z) ≡ false → (x : Places) → x ≡ places_at l tl tr br bl → Ok (record { quad = q; places = x }) ≡ corners_of c l w h k
        unfolding corners_of corner_tests
        corners_found t x ex =
            let d = quad_is in
            let y : x ≡ places_at l (pick TL at k) (pick TR at k) (pick BR at k) (pick BL at k) = ex ∙ (λ i. places_at l (e0 i) (e1 i) (e2 i) (e3 i)) in
            (λ i. Ok (record { quad = d i; places = y i }))
            ∙ answer_next _ _ _ _ (le-ltb k 4 four) (answer_next _ _ _ _ (sym shared_is ∙ apart) (answer_next _ _ _ _ (sym crooked_is ∙ t) (answer_none _)))
