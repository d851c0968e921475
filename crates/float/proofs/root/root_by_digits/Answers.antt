-- `float::root_by_digits` meets its contract: the invariant is `State`. Assumes nothing.
use Rattle.std.proofs.Common.{◌≡◌, ℕ, ◌+◌, ◌*◌, ◌^◌, ◌<◌, Bool, true, false, cond, ltb, sym, ap, ◌∙◌, ◌≤◌, arith, le-ltb, lt-ltb}
use Rattle.float.specs.Root.{nearest_root}
use Rattle.float.proofs.root.Squares.{nearest_is}
use Rattle.float.proofs.root.Digits.{State, start, step_one, step_zero, finish, same}
use Rattle.float.proofs.root.root_by_digits.Goals as goal
use Rattle.float.proofs.root.root_by_digits.Goals.{then-r-next, else-r-next}

pub loop-init : goal.loop-init
loop-init c = start c.args.a c.requires

pub loop-preserved : goal.loop-preserved
loop-preserved c =
    elim c.if-r-next.branch [
      | then-r-next w ↦ same _ _ (step_one _ _ _ _ _ c.loop.invariant c.loop-test.true w.if-r-next.true) w.r-is w.e-is
      | else-r-next w ↦ same _ _ (step_zero _ _ _ _ _ c.loop.invariant c.loop-test.true w.if-r-next.false) w.r-is w.e-is
    ]

-- where the loop is left: what was read is r * r + e
ended : (a rest r e i : ℕ) (e₂ : Bool) → a < 2 ^ 54 → State a rest r e i → 53 ≤ i → ltb r e ≡ e₂ → nearest_root (a * 2 ^ 52) ≡ cond e₂ (r + 1) r
ended a rest r e i e₂ h s k t =
    nearest_is (a * 2 ^ 52) r e (room a h) (finish _ _ _ _ _ s k) s.left ∙ ap (λ (b : Bool). cond b (r + 1) r) t
  where
    room : (a : ℕ) → a < 2 ^ 54 → a * 2 ^ 52 < 4 ^ 53
    room a h = omega arith

pub returns-then-r-e : goal.returns-then-r-e
returns-then-r-e c = sym (ended _ _ _ _ _ true c.requires c.loop.invariant c.loop-test.false (lt-ltb _ _ c.if-r-e.true))

pub returns-else-r-e : goal.returns-else-r-e
returns-else-r-e c = sym (ended _ _ _ _ _ false c.requires c.loop.invariant c.loop-test.false (le-ltb _ _ c.if-r-e.false))
