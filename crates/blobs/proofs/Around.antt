-- The neighbours of a pixel: each is inside the mask, and a visit and a side go by the tests that the definitions have.
-- Assumes nothing.
use Prim.Native.Nat.{ℕ, ◌+◌, ◌-◌, ◌%◌, ◌≤◌, ◌<◌}
use native.Mathlib.Omega.{arith}
use mathlib.Core.Path.{◌≡◌, refl, sym, ap, ap₂, ◌∙◌, subst}
use mathlib.Core.Bool.{Bool, true, false, cond}
use mathlib.Core.List.{List}
use lib.Dec.{leb, ltb}
use lib.ListN.{length}
use borrow.Author.Tests.{ltb-true}
use Rattle.std.specs.Prelude.{Option, Some, None, IfSome}
use Rattle.base.proofs.Pick.{cond_elim}
use Rattle.blobs.specs.Patches.{light, side, sides}
use Rattle.blobs.specs.Stack.{Marking, visit, visit_left, visit_right, visit_up, visit_down, spread}
use Rattle.blobs.specs.Neighbours.{around, visit_to, side_to}
use Rattle.blobs.specs.declared.neighbours.Neighbours.{Neighbours}
use Rattle.blobs.specs.Ready.{Held, Pixel}
use Rattle.blobs.proofs.Grid.{in_row}
use Rattle.blobs.proofs.Steps.{reach_visit}

abbrev Inside : List ℕ → Option ℕ → Type 0
Inside m o = IfSome o (λ i. i < length m)

pub inside_some : (m : List ℕ) {o : Option ℕ} {q : ℕ} → o ≡ Some q → Inside m o → q < length m
inside_some m e i = subst (Inside m) e i

pub record AllInside (m : List ℕ) (n : Neighbours) : Type 0 where
  pub left : Inside m n.left
  pub right : Inside m n.right
  pub up : Inside m n.up
  pub down : Inside m n.down

pub all_inside : {m : List ℕ} {w p : ℕ} (n : Neighbours) → n ≡ around (length m) w p → Pixel m w p → AllInside m n
unfolding around
all_inside {m} {w} {p} n e x = subst (AllInside m) (sym e)
    record {
      left = cond_elim (Inside m) (ltb 0 (p % w)) (Some (p - 1)) None (λ e. omega (arith, x.inside)) (λ e. tt);
      right = cond_elim (Inside m) (ltb (p % w + 1) w) (Some (p + 1)) None
          (λ e. in_row p (length m) w x.inside x.whole (ltb-true (p % w + 1) w e)) (λ e. tt);
      up = cond_elim (Inside m) (leb w p) (Some (p - w)) None (λ e. omega (arith, x.inside)) (λ e. tt);
      down = cond_elim (Inside m) (ltb (p + w) (length m)) (Some (p + w)) None (λ e. ltb-true (p + w) (length m) e) (λ e. tt);
    }

-- ---- a visit
pub held_to : {m : List ℕ} {a : Marking} (o : Option ℕ) → Inside m o → Held m a → Held m (visit_to m o a)
unfolding visit_to
held_to None i h = h
held_to {m} {a} (Some q) i h = (reach_visit a q h i).held

visit_if : (m : List ℕ) (t : Bool) (q : ℕ) (a : Marking) → visit_to m (cond t (Some q) None) a ≡ cond t (visit m q a) a
unfolding visit_to
visit_if m true q a = refl
visit_if m false q a = refl

pub spread_to : (m : List ℕ) (w p : ℕ) (a : Marking) (n : Neighbours) → n ≡ around (length m) w p
    → visit_to m n.down (visit_to m n.up (visit_to m n.right (visit_to m n.left a))) ≡ spread m w p a
unfolding around spread visit_left visit_right visit_up visit_down
spread_to m w p a n e =
    let left = visit_if m (ltb 0 (p % w)) (p - 1) a in
    let right = λ (b : Marking). visit_if m (ltb (p % w + 1) w) (p + 1) b in
    let up = λ (b : Marking). visit_if m (leb w p) (p - w) b in
    let down = λ (b : Marking). visit_if m (ltb (p + w) (length m)) (p + w) b in
    ap (λ (o : Neighbours). visit_to m o.down (visit_to m o.up (visit_to m o.right (visit_to m o.left a)))) e
    ∙ down _
    ∙ ap (visit_down m w p) (up _ ∙ ap (visit_up m w p) (right _ ∙ ap (visit_right m w p) left))

-- ---- a side
side_if : (m : List ℕ) (t : Bool) (q : ℕ) → side_to m (cond t (Some q) None) ≡ side m t q
unfolding side_to side
side_if m true q = refl
side_if m false q = refl

pub sides_to : (m : List ℕ) (w p : ℕ) (n : Neighbours) → n ≡ around (length m) w p
    → side_to m n.left + side_to m n.right + side_to m n.up + side_to m n.down ≡ sides m w p
unfolding around sides
sides_to m w p n e =
    ap (λ (o : Neighbours). side_to m o.left + side_to m o.right + side_to m o.up + side_to m o.down) e
    ∙ ap₂ ◌+◌
    (ap₂ ◌+◌ (ap₂ ◌+◌ (side_if m (ltb 0 (p % w)) (p - 1)) (side_if m (ltb (p % w + 1) w) (p + 1))) (side_if m (leb w p) (p - w)))
    (side_if m (ltb (p + w) (length m)) (p + w))

pub side_to_most : (m : List ℕ) (o : Option ℕ) → side_to m o ≤ 1
unfolding side_to light
side_to_most m None = omega arith
side_to_most m (Some q) = omega arith
