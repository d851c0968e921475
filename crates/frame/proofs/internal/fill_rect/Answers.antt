-- `frame::internal::fill_rect` meets its contract. Assumes nothing.
use Prim.Native.Nat.{◌+◌, ◌*◌, ◌-◌}
use mathlib.Core.Path.{◌≡◌, refl, ap, ◌∙◌}
use native.Mathlib.Omega.{arith}
use lib.ListN.{length}
use Rattle.frame.proofs.Rectangles.{length_rect, rect_empty, rect_same, rect_step}
use Rattle.frame.proofs.internal.fill_rect.Goals as goal

pub loop-y-init : goal.loop-y-init
loop-y-init c =
    let a = c.args in
    (rect_empty a.w a.h _ (omega arith) a.x0 a.y0 _ _ a.c (λ x y r. omega arith), omega arith, omega arith, refl)

pub loop-y-preserved : goal.loop-y-preserved
loop-y-preserved c =
    let a = c.args in
    let l = c.loop-y in
    let n = c.min-x1.result - a.x0 in
    let fits : length a.bytes.now ≡ 3 * a.w * a.h = omega arith in
    let e = rect_step a.w a.h a.bytes.now fits a.x0 a.y0 n l.y a.c l.bytes l.invariant.1 l.invariant.0 in (
      c.fill_row.ensures ∙ e,
      omega arith,
      omega arith,
      ap length (c.fill_row.ensures ∙ e)
          ∙ length_rect a.w a.h a.bytes.now fits a.x0 a.y0 n (l.y + 1 - a.y0) a.c,
    )

pub shape_of-bytes : goal.shape_of-bytes
shape_of-bytes c = c.loop-y.invariant.3

pub returns : goal.returns
returns c =
    let a = c.args in
    let l = c.loop-y in
    let x1 = c.min-x1.result in
    let y1 = c.min-y1.result in
    let fits : length a.bytes.now ≡ 3 * a.w * a.h = omega arith in
    l.invariant.0
    ∙ rect_same a.w a.h a.bytes.now fits a.x0 a.y0 (x1 - a.x0) (l.y - a.y0) a.x0 a.y0 a.width a.height a.c
    (λ x y p q r. record { left = r.left; right = omega arith; top = r.top; bottom = omega arith })
    (λ x y p q r. record { left = r.left; right = omega arith; top = r.top; bottom = omega arith })
