-- `tablet::answers::mask_first` meets its contract. Assumes nothing.
use native.Mathlib.Omega.{arith}
use Rattle.base.proofs.Arith.{product_le}
use Rattle.frame.proofs.Held.{sides_held}
use Rattle.tablet.proofs.answers.mask_first.Goals as goal

pub overflow_mul-w : goal.overflow_mul-w
overflow_mul-w c =
    let a = c.args in
    let h = sides_held a.w a.h (cc) in
    record { fits = omega (arith, product_le a.w a.h 4096 4096 h.w_most h.h_most) }
