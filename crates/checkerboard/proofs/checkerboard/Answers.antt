-- `checkerboard::checkerboard` meets its contract. Assumes nothing.
use mathlib.Core.Path.{sym}
use lib.ListN.{length}
use Rattle.frame.proofs.Held.{sides_held}
use Rattle.checkerboard.proofs.Refusing.{board_passes}
use Rattle.checkerboard.proofs.checkerboard.Goals as goal

pub draw-requires : goal.draw-requires
draw-requires c =
    let a = c.args in
    let p = board_passes a.w a.h (length a.mask.now) (sym (c.in_ok-refused.ensures)) in
    let s = sides_held a.w a.h p.0 in
    (s.w_most, s.h_most, p.1)
