-- `checkerboard::internal::draw_row` meets its contract. Assumes nothing.
use Prim.Native.Nat.{ℕ, ◌<◌, ◌+◌, ◌*◌}
use native.Mathlib.Omega.{arith}
use mathlib.Core.Path.{◌≡◌, sym, ◌∙◌}
use Rattle.base.proofs.Arith.{row_in, row_end}
use Rattle.base.proofs.Plane.{filled_step, filled_end, by_row_lem}
use Rattle.checkerboard.specs.Board.{square, square_at}
use Rattle.checkerboard.proofs.internal.draw_row.Goals as goal

square_here : (x y w : ℕ) → x < w → square x y ≡ square_at w (y * w + x)
unfolding square_at
square_here x y w l = sym (by_row_lem square w x y l)

pub loop-x-init : goal.loop-x-init
loop-x-init c = λ l e. filled_end _ _ _ _ e (omega arith)

pub overflow_mul-i : goal.overflow_mul-i
overflow_mul-i c = omega (arith, row_in c.loop-x.x c.args.y c.args.w c.args.h (omega arith) (omega arith))

pub overflow_add-i : goal.overflow_add-i
overflow_add-i c = omega (arith, row_in c.loop-x.x c.args.y c.args.w c.args.h (omega arith) (omega arith))

pub bounds-mask-i : goal.bounds-mask-i
bounds-mask-i c = omega (arith, row_in c.loop-x.x c.args.y c.args.w c.args.h (omega arith) (omega arith))

pub loop-x-preserved : goal.loop-x-preserved
loop-x-preserved c =
    let k = c.loop-x in
    let a = c.args in
    λ l e. filled_end _ _ _ _ (filled_step _ _ _ _ (k.invariant l e) (c.square.ensures ∙ square_here k.x a.y a.w (omega arith))) (omega arith)

pub returns : goal.returns
returns c =
    let a = c.args in
    λ l e. filled_end _ _ _ _ (c.loop-x.invariant l e) (omega (arith, row_end a.y a.w))
