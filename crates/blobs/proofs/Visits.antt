-- A visit by its meaning (Moments) is a visit of the functions (Stack), and the other way round; and it takes no pixel off. Assumes
-- nothing.
use Prim.Native.Nat.{ℕ, ◌+◌, ◌-◌, ◌%◌, ◌≤◌, ◌<◌}
use native.Mathlib.Decide.{ℕ_discrete}
use native.Mathlib.Nat.{mod-le}
use native.Mathlib.Omega.{arith}
use mathlib.Core.Path.{◌≡◌, refl, sym, ap, ◌∙◌, subst}
use mathlib.Core.Bool.{Bool, true, cond, true≢false}
use mathlib.Core.List.{List}
use lib.Dec.{leb, ltb}
use lib.ListN.{length}
use borrow.Author.Tests.{ltb-true, leb-true, lt-ltb, le-leb}
use Rattle.base.proofs.Pick.{pick_yes, cond_elim}
use Rattle.blobs.specs.Patches.{Dark}
use Rattle.blobs.specs.Stack.{Marking, visit, visit_left, visit_right, visit_up, visit_down}
use Rattle.blobs.specs.Ready.{at}
use Rattle.blobs.specs.Moments.{DarkUnmarked, Left, Right, Upper, Lower, Visit}
use Rattle.blobs.specs.Moments.Visit.{goes_on, stays}
use Rattle.blobs.proofs.Grid.{left_of, right_of, dark_inside}
use Rattle.blobs.proofs.Stacks.{visit_light, visit_seen, visit_push}

pub dark-unmarked? : (m : List ℕ) (a : Marking) (q : ℕ) → Dec (DarkUnmarked m a q)
dark-unmarked? m a q = go (ℕ_discrete (at m q) 0) (ℕ_discrete (at a.seen q) 0)
  where
    go : Dec (at m q ≡ 0) → Dec (at a.seen q ≡ 0) → Dec (DarkUnmarked m a q)
    go (yes e) u = no (λ s. s.0 e)
    go (no d) (yes u) = yes (d, u)
    go (no d) (no u) = no (λ s. u s.1)

-- ---- one pixel
visit_none : (m : List ℕ) (q : ℕ) (a : Marking) → (DarkUnmarked m a q → ⊥) → a ≡ visit m q a
visit_none m q a o = go (ℕ_discrete (at m q) 0)
  where
    go : Dec (at m q ≡ 0) → a ≡ visit m q a
    go (yes e) = visit_light m q a e
    go (no d) = visit_seen m q a (λ u. o (d, u))

-- ---- a visit to the pixel q, where a test holds; N holds for q alone, where the test does
module _ (m : List ℕ) (N : ℕ → Type 0) (t : Bool) (q : ℕ) (a : Marking) (is : t ≡ true → N q) (only : (p : ℕ) → N p → Dark m p → (t ≡ true) × (p ≡ q)) where
  visit_there : t ≡ true → Dec (DarkUnmarked m a q) → Visit m N a (visit m q a)
  visit_there e (yes u) = subst (Visit m N a) (visit_push m q a u.0 u.1) (goes_on q (is e) u)
  visit_there e (no o) = subst (Visit m N a) (visit_none m q a o) (stays (λ p n u. o (subst (DarkUnmarked m a) (only p n u.0).1 u)))

  visit_has : Visit m N a (cond t (visit m q a) a)
  visit_has =
      cond_elim (Visit m N a) t (visit m q a) a (λ e. visit_there e (dark-unmarked? m a q))
      (λ e. stays (λ p n u. true≢false (sym (only p n u.0).0 ∙ e)))

  visit_is : (b : Marking) → Visit m N a b → b ≡ cond t (visit m q a) a
  visit_is b (goes_on p n u) =
      let o = only p n u.0 in
      visit_push m p a u.0 u.1 ∙ ap (λ (x : ℕ). visit m x a) o.1 ∙ pick_yes t (visit m q a) a o.0
  visit_is b (stays o) = cond_elim (λ x. a ≡ x) t (visit m q a) a (λ e. visit_none m q a (λ u. o q (is e) u)) (λ e. refl)

-- ---- the four neighbours of p
module _ (m : List ℕ) (w p : ℕ) where
  left_is : 0 < w → ltb 0 (p % w) ≡ true → Left w p (p - 1)
  left_is o e =
      let l = ltb-true 0 (p % w) e in
      let b : p ≡ p - 1 + 1 = omega (arith, mod-le p w) in
      (b, left_of p (p - 1) w o b l)

  left_only : (q : ℕ) → Left w p q → Dark m q → (ltb 0 (p % w) ≡ true) × (q ≡ p - 1)
  left_only q n d = (lt-ltb 0 (p % w) (right_of p q w n.0 n.1), omega (arith, n.0))

  right_is : ltb (p % w + 1) w ≡ true → Right w p (p + 1)
  right_is e = (refl, ltb-true (p % w + 1) w e)

  right_only : (q : ℕ) → Right w p q → Dark m q → (ltb (p % w + 1) w ≡ true) × (q ≡ p + 1)
  right_only q n d = (lt-ltb (p % w + 1) w n.1, n.0)

  up_is : leb w p ≡ true → Upper w p (p - w)
  up_is e = omega (arith, leb-true w p e)

  up_only : (q : ℕ) → Upper w p q → Dark m q → (leb w p ≡ true) × (q ≡ p - w)
  up_only q n d = (le-leb w p (omega arith), omega arith)

  down_is : ltb (p + w) (length m) ≡ true → Lower w p (p + w)
  down_is e = refl

  down_only : (q : ℕ) → Lower w p q → Dark m q → (ltb (p + w) (length m) ≡ true) × (q ≡ p + w)
  down_only q n d = (lt-ltb (p + w) (length m) (omega (arith, dark_inside m q d)), n)

module _ (m : List ℕ) (w p : ℕ) (a : Marking) where
  pub left_has : 0 < w → Visit m (Left w p) a (visit_left m w p a)
  unfolding visit_left
  left_has o = visit_has m (Left w p) (ltb 0 (p % w)) (p - 1) a (left_is m w p o) (left_only m w p)

  pub right_has : Visit m (Right w p) a (visit_right m w p a)
  unfolding visit_right
  right_has = visit_has m (Right w p) (ltb (p % w + 1) w) (p + 1) a (right_is m w p) (right_only m w p)

  pub up_has : Visit m (Upper w p) a (visit_up m w p a)
  unfolding visit_up
  up_has = visit_has m (Upper w p) (leb w p) (p - w) a (up_is m w p) (up_only m w p)

  pub down_has : Visit m (Lower w p) a (visit_down m w p a)
  unfolding visit_down
  down_has = visit_has m (Lower w p) (ltb (p + w) (length m)) (p + w) a (down_is m w p) (down_only m w p)

  module _ (b : Marking) where
    pub visit_left_lem : 0 < w → Visit m (Left w p) a b → b ≡ visit_left m w p a
    unfolding visit_left
    visit_left_lem o = visit_is m (Left w p) (ltb 0 (p % w)) (p - 1) a (left_is m w p o) (left_only m w p) b

    pub visit_right_lem : Visit m (Right w p) a b → b ≡ visit_right m w p a
    unfolding visit_right
    visit_right_lem = visit_is m (Right w p) (ltb (p % w + 1) w) (p + 1) a (right_is m w p) (right_only m w p) b

    pub visit_up_lem : Visit m (Upper w p) a b → b ≡ visit_up m w p a
    unfolding visit_up
    visit_up_lem = visit_is m (Upper w p) (leb w p) (p - w) a (up_is m w p) (up_only m w p) b

    pub visit_down_lem : Visit m (Lower w p) a b → b ≡ visit_down m w p a
    unfolding visit_down
    visit_down_lem = visit_is m (Lower w p) (ltb (p + w) (length m)) (p + w) a (down_is m w p) (down_only m w p) b

-- no pixel is taken off
pub visit_grows : {m : List ℕ} {N : ℕ → Type 0} {a b : Marking} → Visit m N a b → length a.waiting ≤ length b.waiting
visit_grows (goes_on q n u) = omega arith
visit_grows (stays o) = omega arith
