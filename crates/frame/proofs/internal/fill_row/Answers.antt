-- `frame::internal::fill_row` meets its contract. Assumes nothing.
use Prim.Native.Nat.{◌+◌, ◌*◌, ◌-◌}
use mathlib.Core.Path.{◌≡◌, refl, ap, ◌∙◌}
use native.Mathlib.Omega.{arith}
use lib.ListN.{length}
use Rattle.frame.specs.Image.{image, with_rect}
use Rattle.frame.proofs.Rectangles.{length_rect, rect_empty, row_step}
use Rattle.frame.proofs.internal.fill_row.Goals as goal

pub loop-x-init : goal.loop-x-init
loop-x-init c =
    let a = c.args in
    (rect_empty a.w a.h _ (omega arith) a.x0 a.y _ 1 a.c (λ x y r. omega arith), omega arith, omega arith, refl)

pub loop-x-preserved : goal.loop-x-preserved
loop-x-preserved c =
    let a = c.args in
    let l = c.loop-x in
    let fits : length a.bytes.now ≡ 3 * a.w * a.h = omega arith in
    let e = row_step a.w a.h a.bytes.now fits a.x0 a.y l.x a.c l.bytes l.invariant.1 (omega arith) (omega arith) l.invariant.0 in (
      c.set.ensures ∙ e,
      omega arith,
      omega arith,
      ap length (c.set.ensures ∙ e)
          ∙ length_rect a.w a.h a.bytes.now fits a.x0 a.y (l.x + 1 - a.x0) 1 a.c,
    )

pub shape_of-bytes : goal.shape_of-bytes
shape_of-bytes c = c.loop-x.invariant.3

pub returns : goal.returns
returns c =
    let a = c.args in
    let l = c.loop-x in
    let e : l.x - a.x0 ≡ a.x1 - a.x0 = omega arith in
    l.invariant.0 ∙ ap (λ n. with_rect (image a.w a.h a.bytes.now) a.x0 a.y n 1 a.c) e
