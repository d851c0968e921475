-- `blobs::refused` meets its contract. Assumes nothing.
use Prim.Native.Nat.{ℕ, ◌*◌, ◌≤◌}
use native.Mathlib.Omega.{arith}
use mathlib.Core.Bool.{false}
use mathlib.Core.Path.{◌≡◌, sym, ◌∙◌}
use native.Mathlib.Nat.{mul-le-mul}
use Rattle.frame.specs.Refusals.{sides_wrong}
use Rattle.frame.proofs.Held.{sides_held}
use Rattle.blobs.proofs.Refusing.{wrong_sides, wrong_length, short_seen, short_waiting, short_patches_lem, long_enough}
use Rattle.blobs.proofs.refused.Goals as goal
use Rattle.blobs.proofs.refused.Goals.{then-seen-n-via-then-seen-n, then-seen-n-via-else-seen-n+then-waiting-n, then-seen-n-via-else-seen-n+else-waiting-n+then-patches-n}

few_pixels : (w h : ℕ) → sides_wrong w h ≡ false → w * h ≤ 16777216
few_pixels w h e = let s = sides_held w h e in omega (arith, mul-le-mul s.w_most s.h_most)

pub returns-then-sides_wrong : goal.returns-then-sides_wrong
returns-then-sides_wrong c =
    wrong_sides _ _ _ _ _ _ (sym c.sides_wrong.ensures ∙ c.if-sides_wrong.true)

pub overflow_mul-n : goal.overflow_mul-n
overflow_mul-n c = omega (arith, few_pixels _ _ (sym c.sides_wrong.ensures ∙ c.if-sides_wrong.false))

pub returns-then-mask-n : goal.returns-then-mask-n
returns-then-mask-n c = wrong_length _ _ _ _ _ _ c.if-mask-n.true

pub overflow_add-n : goal.overflow_add-n
overflow_add-n c = omega (arith, few_pixels _ _ (sym c.sides_wrong.ensures ∙ c.if-sides_wrong.false))

pub overflow_mul-n-else-waiting-n : goal.overflow_mul-n-else-waiting-n
overflow_mul-n-else-waiting-n c = omega (arith, few_pixels _ _ (sym c.sides_wrong.ensures ∙ c.if-sides_wrong.false))

pub returns-then-seen-n : goal.returns-then-seen-n
returns-then-seen-n c =
    let e : sides_wrong c.args.w c.args.h ≡ false = sym c.sides_wrong.ensures ∙ c.if-sides_wrong.false in
    elim c.then-seen-n.branch [
      | then-seen-n-via-then-seen-n w ↦ short_seen _ _ _ _ _ _ e c.if-mask-n.false w.if-seen-n.true
      | then-seen-n-via-else-seen-n+then-waiting-n w ↦ short_waiting _ _ _ _ _ _ e c.if-mask-n.false w.if-waiting-n.true
      | then-seen-n-via-else-seen-n+else-waiting-n+then-patches-n w ↦ short_patches_lem _ _ _ _ _ _ e c.if-mask-n.false w.if-patches-n.true
    ]

pub returns : goal.returns
returns c =
    long_enough _ _ _ _ _ _ (sym c.sides_wrong.ensures ∙ c.if-sides_wrong.false) c.if-mask-n.false c.if-seen-n.false c.if-waiting-n.false c.if-patches-n.false
