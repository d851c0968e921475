-- The sides of a pixel: at most four count, and the others face a dark pixel that shares an edge with it. Assumes nothing.
use Prim.Native.Nat.{ℕ, zero, suc, ◌+◌, ◌-◌, ◌*◌, ◌%◌, ◌≤◌, ◌<◌}
use native.Mathlib.Nat.{mod-lt, mod-le, mul-one}
use native.Mathlib.Decide.{dec_lt, ℕ_discrete}
use native.Mathlib.Omega.{arith}
use mathlib.Core.Path.{◌≡◌, refl, sym, ap, subst, ◌∙◌}
use mathlib.Core.Bool.{Bool, true, cond, true≢false}
use mathlib.Core.List.{List}
use mathlib.Core.Logic.{◌⊎◌, inl, inr, ⊎_elim}
use lib.Dec.{leb, ltb, eqb}
use lib.ListN.{length, get_or}
use borrow.Author.Tests.{ltb-true, leb-true, eqb-true, eqb-false, eq-eqb, ne_eqb}
use Rattle.base.proofs.Pick.{pick_yes, pick_no, cond_elim}
use Rattle.blobs.specs.Patches.{Dark, Touch, total, Marks, one, light, side, sides}
use Rattle.blobs.specs.Patches.Touch.{right, left, under, over}
use Rattle.blobs.specs.Patches.Joined.{step}
use Rattle.blobs.specs.Sides.{SidesByTouch, SidesOfPatch}
use Rattle.blobs.proofs.Sums.{total_same, total_add}
use Rattle.blobs.proofs.Grid.{left_of, dark_inside}
use Rattle.blobs.proofs.Joins.{joined_dark}
use Rattle.blobs.proofs.Faces.{Faced, L, R, U, D, faces}
use Rattle.blobs.proofs.Marks.{marks_same, marks_as, marks_either}

pub side_most : (m : List ℕ) (there : Bool) (q : ℕ) → side m there q ≤ 1
unfolding side light
side_most m there q = cond_elim (λ z. z ≤ 1) there (light m q) 1 (λ e. omega arith) (λ e. omega arith)

pub sides_most : (m : List ℕ) (w p : ℕ) → sides m w p ≤ 4
unfolding sides
sides_most m w p = omega (arith, side_most m (ltb 0 (p % w)) (p - 1), side_most m (ltb (p % w + 1) w) (p + 1), side_most m (leb w p) (p - w), side_most m (ltb (p + w) (length m)) (p + w))

-- ---- one side, which faces the pixel r, if there is one

-- q is that pixel, dark, and counted
unfoldable faced : List ℕ → Bool → ℕ → ℕ → ℕ
faced m there r q = cond (eqb q r) (1 - side m there r) 0

module _ (m : List ℕ) (there : Bool) (r : ℕ) where
  -- the side counts, or it faces a dark pixel
  side_or : ((side m there r ≡ 1) × (there ≡ true → Dark m r → ⊥)) ⊎ ((side m there r ≡ 0) × (there ≡ true) × Dark m r)
  unfolding side light
  side_or = cond_elim (λ z. ((z ≡ 1) × (there ≡ true → Dark m r → ⊥)) ⊎ ((z ≡ 0) × (there ≡ true) × Dark m r)) there (light m r) 1
      (λ e. go e (ℕ_discrete (get_or m r 0) 0))
      (λ e. inl (refl, λ t. absurd (true≢false (sym t ∙ e))))
    where
      go : there ≡ true → Dec (get_or m r 0 ≡ 0) → ((light m r ≡ 1) × (there ≡ true → Dark m r → ⊥)) ⊎ ((light m r ≡ 0) × (there ≡ true) × Dark m r)
      go e (yes z) = inl (omega arith, λ t d. d z)
      go e (no d) = inr (omega arith, e, d)

  faced_marks : Marks (faced m there r) (Faced m there r)
  unfolding faced
  faced_marks q = cond_elim (λ z. ((z ≡ 1) × Faced m there r q) ⊎ ((z ≡ 0) × (Faced m there r q → ⊥))) (eqb q r) (1 - side m there r) 0
      (λ t. here (eqb-true q r t))
      (λ t. inr (refl, λ x. eqb-false q r t x.0))
    where
      here : q ≡ r → ((1 - side m there r ≡ 1) × Faced m there r q) ⊎ ((1 - side m there r ≡ 0) × (Faced m there r q → ⊥))
      here e = ⊎_elim
          (λ x. inr (omega (arith, x.0), λ y. x.1 y.1 (subst (Dark m) e y.2)))
          (λ x. inl (omega (arith, x.0), (e, x.1, subst (Dark m) (sym e) x.2)))
          side_or

  -- a sum with one term
  faced_below : (n : ℕ) → n ≤ r → total one (faced m there r) n ≡ 0
  unfolding total faced
  faced_below zero l = refl
  faced_below (suc n) l =
      omega (arith, faced_below n (omega arith), mul-one (faced m there r n), sym (pick_no (eqb n r) (1 - side m there r) 0 (ne_eqb n r (λ e. omega arith))))

  faced_above : (n : ℕ) → r < n → total one (faced m there r) n ≡ 1 - side m there r
  unfolding total faced
  faced_above zero l = absurd (omega arith)
  faced_above (suc n) l = go (ℕ_discrete n r) (λ k. faced_above n k)
    where
      go : Dec (n ≡ r) → (r < n → total one (faced m there r) n ≡ 1 - side m there r) → total one (faced m there r) n + faced m there r n * 1 ≡ 1 - side m there r
      go (yes e) h = omega (arith, faced_below n (omega arith), mul-one (faced m there r n), sym (pick_yes (eqb n r) (1 - side m there r) 0 (eq-eqb n r e)))
      go (no o) h = omega (arith, h (omega arith), mul-one (faced m there r n), sym (pick_no (eqb n r) (1 - side m there r) 0 (ne_eqb n r o)))

  -- the side counts, or the pixel that it faces does
  faced_total : side m there r + total one (faced m there r) (length m) ≡ 1
  faced_total = ⊎_elim
      (λ x. omega (arith, x.0, light_total x.0 (dec_lt r (length m))))
      (λ x. omega (arith, x.0, faced_above (length m) (dark_inside m r x.2)))
      side_or
    where
      light_total : side m there r ≡ 1 → Dec (r < length m) → total one (faced m there r) (length m) ≡ 0
      light_total e (yes l) = omega (arith, faced_above (length m) l)
      light_total e (no o) = faced_below (length m) (omega arith)

-- ---- the four sides of p: left, right, upper, lower
module _ (m : List ℕ) (w p : ℕ) (wide : 0 < w) where
  -- no pixel is on two of them
  left_right : (q : ℕ) → L m w p q → R m w p q → ⊥
  left_right q a b = omega (arith, a.0, b.0)

  left_up : (q : ℕ) → L m w p q → U m w p q → ⊥
  left_up q a b = omega (arith, a.0, b.0, ltb-true 0 (p % w) a.1, leb-true w p b.1, mod-lt p wide, mod-le p w)

  right_up : (q : ℕ) → R m w p q → U m w p q → ⊥
  right_up q a b = omega (arith, a.0, b.0)

  left_down : (q : ℕ) → L m w p q → D m w p q → ⊥
  left_down q a b = omega (arith, a.0, b.0)

  right_down : (q : ℕ) → R m w p q → D m w p q → ⊥
  right_down q a b = omega (arith, a.0, b.0, ltb-true (p % w + 1) w a.1)

  up_down : (q : ℕ) → U m w p q → D m w p q → ⊥
  up_down q a b = omega (arith, a.0, b.0)

  touches : (q : ℕ) → ((L m w p q ⊎ R m w p q) ⊎ U m w p q) ⊎ D m w p q → Touch w p q × Dark m q
  touches q (inl (inl (inl a))) =
      let e : p ≡ q + 1 = omega (arith, a.0, ltb-true 0 (p % w) a.1, mod-le p w) in
      (left e (left_of p q w wide e (ltb-true 0 (p % w) a.1)), a.2)
  touches q (inl (inl (inr a))) = (right a.0 (ltb-true (p % w + 1) w a.1), a.2)
  touches q (inl (inr a)) = (over (omega (arith, a.0, leb-true w p a.1)), a.2)
  touches q (inr a) = (under a.0, a.2)

  abbrev l : ℕ → ℕ
  l = faced m (ltb 0 (p % w)) (p - 1)

  abbrev r : ℕ → ℕ
  r = faced m (ltb (p % w + 1) w) (p + 1)

  abbrev u : ℕ → ℕ
  u = faced m (leb w p) (p - w)

  abbrev d : ℕ → ℕ
  d = faced m (ltb (p + w) (length m)) (p + w)

  marks_four : Marks (λ q. l q + r q + u q + d q) (λ q. Touch w p q × Dark m q)
  marks_four =
      marks_as touches (λ q x. faces m w p q x.0 x.1)
      (marks_either (λ q a b. ⊎_elim (λ x. ⊎_elim (λ y. left_down q y b) (λ y. right_down q y b) x) (λ x. up_down q x b) a)
      (marks_either (λ q a b. ⊎_elim (λ x. left_up q x b) (λ x. right_up q x b) a)
      (marks_either left_right (faced_marks m (ltb 0 (p % w)) (p - 1)) (faced_marks m (ltb (p % w + 1) w) (p + 1)))
      (faced_marks m (leb w p) (p - w)))
      (faced_marks m (ltb (p + w) (length m)) (p + w)))

  four : sides m w p + total one (λ q. l q + r q + u q + d q) (length m) ≡ 4
  unfolding sides
  four =
      omega (
        arith,
        total_add (λ q. l q + r q + u q) d (length m),
        total_add (λ q. l q + r q) u (length m),
        total_add l r (length m),
        faced_total m (ltb 0 (p % w)) (p - 1),
        faced_total m (ltb (p % w + 1) w) (p + 1),
        faced_total m (leb w p) (p - w),
        faced_total m (ltb (p + w) (length m)) (p + w),
      )

pub sides_by_touch : SidesByTouch
sides_by_touch m w p c wide h =
    ap (λ (z : ℕ). sides m w p + z) (total_same one c _ (length m) (λ q b. marks_same c _ _ h (marks_four m w p wide) q))
    ∙ four m w p wide

pub sides_of_patch : SidesOfPatch
sides_of_patch m w a p c wide j h =
    sides_by_touch m w p c wide
    (marks_as (λ q x. (x.0, joined_dark x.1)) (λ q x. (x.0, step j x.0 x.1)) h)
