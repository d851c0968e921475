-- `checkerboard::refused` meets its contract. Assumes nothing.
use native.Mathlib.Nat.{mul-le-mul}
use native.Mathlib.Omega.{arith}
use mathlib.Core.Path.{sym, ◌∙◌}
use Rattle.frame.proofs.Held.{sides_held}
use Rattle.checkerboard.proofs.Refusing.{wrong_sides, short_mask, long_enough}
use Rattle.checkerboard.proofs.refused.Goals as goal

pub returns-then-sides_wrong : goal.returns-then-sides_wrong
returns-then-sides_wrong c =
    let a = c.args in
    wrong_sides a.w a.h a.mask (sym c.sides_wrong.ensures ∙ c.if-sides_wrong.true)

pub overflow_mul-w : goal.overflow_mul-w
overflow_mul-w c =
    let a = c.args in
    let s = sides_held a.w a.h (sym c.sides_wrong.ensures ∙ c.if-sides_wrong.false) in
    omega (arith, mul-le-mul s.w_most s.h_most)

pub returns-then-mask-w : goal.returns-then-mask-w
returns-then-mask-w c =
    let a = c.args in
    short_mask a.w a.h a.mask (sym c.sides_wrong.ensures ∙ c.if-sides_wrong.false) c.if-mask-w.true

pub returns : goal.returns
returns c =
    let a = c.args in
    long_enough a.w a.h a.mask (sym c.sides_wrong.ensures ∙ c.if-sides_wrong.false) c.if-mask-w.false
