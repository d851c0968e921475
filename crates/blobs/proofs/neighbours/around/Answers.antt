-- `blobs::neighbours::around` meets its contract. Assumes nothing.
use Rattle.std.proofs.Common.{◌≡◌, ◌∙◌, ◌+◌, ◌-◌, ◌%◌, ◌≤◌, ℕ, ap, arith, Some, None}
use Rattle.std.specs.Prelude.{Option, cond, SomeIff}
use lib.Dec.{leb, ltb}
use borrow.Author.Tests.{lt-ltb, le-ltb, le-leb, lt-leb}
use Rattle.base.proofs.Pick.{pick_yes, pick_no}
use Rattle.blobs.specs.Neighbours.{around}
use Rattle.blobs.proofs.neighbours.around.Goals as goal
use Rattle.blobs.proofs.neighbours.around.Goals.{Joined-x-w, then-x-gt0, else-x-gt0, then-x-w, else-x-w}

left_is : (c : Joined-x-w) → c.if-x-gt0.left ≡ cond (ltb 0 (c.args.p % c.args.w)) (Some (c.args.p - 1)) None
left_is c =
    elim c.if-x-gt0.branch [
      | then-x-gt0 w ↦ w.left-is ∙ pick_yes _ _ _ (lt-ltb 0 (c.args.p % c.args.w) (omega arith))
      | else-x-gt0 w ↦ w.left-is ∙ pick_no _ _ _ (le-ltb 0 (c.args.p % c.args.w) (omega arith))
    ]

right_is : (c : Joined-x-w) → c.if-x-w.right ≡ cond (ltb (c.args.p % c.args.w + 1) c.args.w) (Some (c.args.p + 1)) None
right_is c =
    elim c.if-x-w.branch [
      | then-x-w w ↦ w.right-is ∙ pick_yes _ _ _ (lt-ltb (c.args.p % c.args.w + 1) c.args.w (omega arith))
      | else-x-w w ↦ w.right-is ∙ pick_no _ _ _ (le-ltb (c.args.p % c.args.w + 1) c.args.w (omega arith))
    ]

up_is : (r : Option ℕ) (w p : ℕ) → SomeIff r (w ≤ p) (p - w) → r ≡ cond (leb w p) (Some (p - w)) None
up_is None w p h = pick_no _ _ _ (lt-leb w p (omega arith))
up_is (Some x) w p h = ap Some h.1 ∙ pick_yes _ _ _ (le-leb w p h.0)

pub returns-then-p-w : goal.returns-then-p-w
unfolding around
returns-then-p-w c =
    let left = left_is c.before.before in let right = right_is c.before.before in let up = up_is _ _ _ c.checked_sub-up.ensures in
    let down = pick_yes _ (Some (c.args.p + c.args.w)) None (lt-ltb _ _ c.if-p-w.true) in
    λ i. record { left = left i; right = right i; up = up i; down = down i }

pub returns-else-p-w : goal.returns-else-p-w
unfolding around
returns-else-p-w c =
    let left = left_is c.before.before in let right = right_is c.before.before in let up = up_is _ _ _ c.checked_sub-up.ensures in
    let down = pick_no _ (Some (c.args.p + c.args.w)) None (le-ltb _ _ c.if-p-w.false) in
    λ i. record { left = left i; right = right i; up = up i; down = down i }
