-- What a visit to one pixel, and to each of the four neighbours of one, does to marks and waiting pixels. Assumes nothing.
use Prim.Native.Nat.{ℕ, ◌+◌, ◌-◌, ◌%◌, ◌≤◌, ◌<◌}
use native.Mathlib.Nat.{mod-le}
use native.Mathlib.Omega.{arith}
use mathlib.Core.Path.{◌≡◌, refl, sym, ◌∙◌, subst}
use mathlib.Core.Bool.{Bool, true, cond, true≢false}
use mathlib.Core.List.{List, ◌∷◌}
use mathlib.Core.Logic.{◌⊎◌, inl, inr, ⊎_elim}
use lib.Dec.{leb, ltb, eqb}
use lib.ListN.{length, get_or, set, length-set}
use lib.Seq.{get_or-set_same}
use borrow.Author.Tests.{eqb-true, eqb-false, ltb-true, leb-true, lt-ltb, le-leb}
use Rattle.base.proofs.Pick.{cond_elim}
use Rattle.blobs.specs.Patches.{Dark, Touch, total, one}
use Rattle.blobs.specs.Patches.Touch.{right, left, under, over}
use Rattle.blobs.specs.Stack.{Marking, marking, visit, visit_left, visit_right, visit_up, visit_down}
use Rattle.blobs.specs.Ready.{at, Held, Pixel}
use Rattle.blobs.proofs.Sums.{total_set, at_set, flags_set, unseen_fewer, summed}
use Rattle.blobs.proofs.Grid.{left_of, right_of, in_row, dark_inside}

-- q is among the pixels that wait
pub data Waits (q : ℕ) : List ℕ → Type 0 where
  newest : {p : ℕ} {k : List ℕ} → q ≡ p → Waits q (p ∷ k)
  older : {p : ℕ} {k : List ℕ} → Waits q k → Waits q (p ∷ k)

-- from a to b some dark pixels for which Q holds were marked, and put on
pub record Reach (m : List ℕ) (Q : ℕ → Type 0) (a b : Marking) : Type 0 where
  pub held : Held m b
  pub keeps : (q : ℕ) → at a.seen q ≡ 1 → at b.seen q ≡ 1
  pub grows : length a.waiting ≤ length b.waiting
  pub still : (q : ℕ) → Waits q a.waiting → Waits q b.waiting
  pub newer : (q : ℕ) → Waits q b.waiting → Waits q a.waiting ⊎ ((at b.seen q ≡ 1) × (Q q × Dark m q))
  pub fresh : (q : ℕ) → at b.seen q ≡ 1 → (at a.seen q ≡ 1) ⊎ (Waits q b.waiting × (Q q × Dark m q))
  pub even : (f : ℕ → ℕ) → total f (at b.seen) (length m) + summed f a.waiting ≡ total f (at a.seen) (length m) + summed f b.waiting

pub reach_none : {m : List ℕ} {Q : ℕ → Type 0} {a : Marking} → Held m a → Reach m Q a a
reach_none h = record { held = h; keeps = λ q e. e; grows = omega arith; still = λ q v. v; newer = λ q v. inl v; fresh = λ q e. inl e; even = λ f. refl }

-- a pixel that is not marked leaves room for one more
pub room : {m : List ℕ} {a : Marking} (q : ℕ) → Held m a → q < length m → at a.seen q ≡ 0 → length a.waiting < length m
room {m} {a} q h l z = omega (arith, unseen_fewer a.seen q (length m) h.long h.flags l z, h.fewer)

reach_push : {m : List ℕ} {a : Marking} (q : ℕ) → Held m a → q < length m → at a.seen q ≡ 0 → Dark m q
    → Reach m (λ x. x ≡ q) a (marking (set a.seen q 1) (q ∷ a.waiting))
unfolding summed
reach_push {m} {a} q h l z d =
    let s = a.seen in
    let n : ℕ = length m in
    record {
      held = record {
        long = length-set s q 1 ∙ h.long;
        flags = flags_set s q i h.flags;
        fewer = omega (arith, total_set one s q n l i z, h.fewer);
      };
      keeps = λ x e. ⊎_elim (λ w. w.1) (λ w. w.1 ∙ e) (at_set s q 1 x i);
      grows = omega arith;
      still = λ x v. older v;
      newer = new;
      fresh = λ x e. ⊎_elim (λ w. inr (newest w.0, (w.0, subst (Dark m) (sym w.0) d))) (λ w. inl (sym w.1 ∙ e)) (at_set s q 1 x i);
      even = λ f. omega (arith, total_set f s q n l i z);
    }
  where
    i : q < length a.seen
    i = omega (arith, h.long)

    new : (x : ℕ) → Waits x (q ∷ a.waiting) → Waits x a.waiting ⊎ ((at (set a.seen q 1) x ≡ 1) × ((x ≡ q) × Dark m x))
    new x (newest e) = inr (subst (λ (y : ℕ). at (set a.seen q 1) y ≡ 1) (sym e) (get_or-set_same a.seen q 1 0 i), (e, subst (Dark m) (sym e) d))
    new x (older v) = inl v

-- the pixels may be described more widely
reach_wide : {m : List ℕ} {Q P : ℕ → Type 0} {a b : Marking} → ((q : ℕ) → Q q → P q) → Reach m Q a b → Reach m P a b
reach_wide w r =
    record {
      held = r.held;
      keeps = r.keeps;
      grows = r.grows;
      still = r.still;
      newer = λ q v. ⊎_elim inl (λ x. inr (x.0, (w q x.1.0, x.1.1))) (r.newer q v);
      fresh = λ q e. ⊎_elim inl (λ x. inr (x.0, (w q x.1.0, x.1.1))) (r.fresh q e);
      even = r.even;
    }

pub reach_then : {m : List ℕ} {Q : ℕ → Type 0} {a b c : Marking} → Reach m Q a b → Reach m Q b c → Reach m Q a c
reach_then r s =
    record {
      held = s.held;
      keeps = λ q e. s.keeps q (r.keeps q e);
      grows = omega (arith, r.grows, s.grows);
      still = λ q v. s.still q (r.still q v);
      newer = λ q v. ⊎_elim (λ x. ⊎_elim inl (λ y. inr (s.keeps q y.0, y.1)) (r.newer q x)) inr (s.newer q v);
      fresh = λ q e. ⊎_elim (λ x. ⊎_elim inl (λ y. inr (s.still q y.0, y.1)) (r.fresh q x)) inr (s.fresh q e);
      even = λ f. omega (arith, r.even f, s.even f);
    }

-- ---- one pixel
pub reach_visit : {m : List ℕ} (a : Marking) (q : ℕ) → Held m a → q < length m → Reach m (λ x. x ≡ q) a (visit m q a)
unfolding visit
reach_visit {m} a q h l =
    cond_elim (Reach m (λ x. x ≡ q) a) (eqb (get_or m q 0) 0) a _ (λ e. reach_none h)
    (λ e. cond_elim (Reach m (λ x. x ≡ q) a) (eqb (get_or a.seen q 0) 0) _ a (λ z. reach_push q h l (eqb-true _ 0 z) (eqb-false _ 0 e)) (λ z. reach_none h))

visit_marks : {m : List ℕ} (a : Marking) (q : ℕ) → Held m a → q < length m → Dark m q → at (visit m q a).seen q ≡ 1
unfolding visit
visit_marks {m} a q h l d =
    cond_elim (λ b. at b.seen q ≡ 1) (eqb (get_or m q 0) 0) a _ (λ e. absurd (d (eqb-true _ 0 e)))
    (λ e. cond_elim (λ b. at b.seen q ≡ 1) (eqb (get_or a.seen q 0) 0) _ a (λ z. get_or-set_same a.seen q 1 0 (omega (arith, h.long)))
    (λ z. let o = eqb-false (get_or a.seen q 0) 0 z in omega (arith, h.flags q)))

-- one pixel, where a test holds
reach_if : {m : List ℕ} (P : ℕ → Type 0) (t : Bool) (a : Marking) (q : ℕ) → Held m a → (t ≡ true → (q < length m) × P q) → Reach m P a (cond t (visit m q a) a)
reach_if {m} P t a q h y =
    cond_elim (Reach m P a) t (visit m q a) a (λ e. reach_wide (λ x z. subst P (sym z) (y e).1) (reach_visit a q h (y e).0)) (λ e. reach_none h)

if_marks : {m : List ℕ} (t : Bool) (a : Marking) (q : ℕ) → t ≡ true → Held m a → Dark m q → at (cond t (visit m q a) a).seen q ≡ 1
if_marks {m} t a q e h d =
    cond_elim (λ b. at b.seen q ≡ 1) t (visit m q a) a (λ y. visit_marks a q h (dark_inside m q d) d) (λ n. absurd (true≢false (sym e ∙ n)))

-- ---- the four neighbours of p
module _ {m : List ℕ} {w p : ℕ} (a : Marking) (x : Pixel m w p) (h : Held m a) where
  pub reach_left : Reach m (Touch w p) a (visit_left m w p a)
  unfolding visit_left
  reach_left = reach_if (Touch w p) (ltb 0 (p % w)) a (p - 1) h (λ e. go (ltb-true 0 (p % w) e))
    where
      go : 0 < p % w → (p - 1 < length m) × Touch w p (p - 1)
      go l =
          let b : p ≡ p - 1 + 1 = omega (arith, mod-le p w) in
          (omega (arith, x.inside), left b (left_of p (p - 1) w x.wide b l))

  pub reach_right : Reach m (Touch w p) a (visit_right m w p a)
  unfolding visit_right
  reach_right = reach_if (Touch w p) (ltb (p % w + 1) w) a (p + 1) h (λ e. let l = ltb-true (p % w + 1) w e in (in_row p (length m) w x.inside x.whole l, right refl l))

  pub reach_up : Reach m (Touch w p) a (visit_up m w p a)
  unfolding visit_up
  reach_up = reach_if (Touch w p) (leb w p) a (p - w) h (λ e. let l = leb-true w p e in (omega (arith, x.inside), over (omega arith)))

  pub reach_down : Reach m (Touch w p) a (visit_down m w p a)
  unfolding visit_down
  reach_down = reach_if (Touch w p) (ltb (p + w) (length m)) a (p + w) h (λ e. (ltb-true (p + w) (length m) e, under refl))

  pub left_marks : (q : ℕ) → p ≡ q + 1 → q % w + 1 < w → Dark m q → at (visit_left m w p a).seen q ≡ 1
  unfolding visit_left
  left_marks q e l d =
      let g : p - 1 ≡ q = omega arith in
      subst (λ (z : ℕ). Dark m z → at (cond (ltb 0 (p % w)) (visit m (p - 1) a) a).seen z ≡ 1) g (λ b. if_marks (ltb 0 (p % w)) a (p - 1) (lt-ltb 0 (p % w) (right_of p q w e l)) h b) d

  pub right_marks : (q : ℕ) → q ≡ p + 1 → p % w + 1 < w → Dark m q → at (visit_right m w p a).seen q ≡ 1
  unfolding visit_right
  right_marks q e l d = subst (λ (z : ℕ). Dark m z → at (cond (ltb (p % w + 1) w) (visit m (p + 1) a) a).seen z
      ≡ 1) (sym e) (λ b. if_marks (ltb (p % w + 1) w) a (p + 1) (lt-ltb (p % w + 1) w l) h b) d

  pub up_marks : (q : ℕ) → p ≡ q + w → Dark m q → at (visit_up m w p a).seen q ≡ 1
  unfolding visit_up
  up_marks q e d =
      let g : p - w ≡ q = omega arith in
      subst (λ (z : ℕ). Dark m z → at (cond (leb w p) (visit m (p - w) a) a).seen z ≡ 1) g (λ b. if_marks (leb w p) a (p - w) (le-leb w p (omega arith)) h b) d

  pub down_marks : (q : ℕ) → q ≡ p + w → Dark m q → at (visit_down m w p a).seen q ≡ 1
  unfolding visit_down
  down_marks q e d =
      let l : p + w < length m = omega (arith, dark_inside m q d) in
      subst (λ (z : ℕ). Dark m z → at (cond (ltb (p + w) (length m)) (visit m (p + w) a) a).seen z
      ≡ 1) (sym e) (λ b. if_marks (ltb (p + w) (length m)) a (p + w) (lt-ltb (p + w) (length m) l) h b) d
