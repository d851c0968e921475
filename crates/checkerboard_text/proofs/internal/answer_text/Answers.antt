-- `checkerboard_text::internal::answer_text` meets its contract. Assumes nothing.
use Prim.Native.Nat.{◌*◌}
use mathlib.Core.Path.{ap, ◌∙◌}
use lib.ListN.{take, replicate}
use Rattle.base.proofs.Arith.{product_le}
use Rattle.base.proofs.Table.{take_filled}
use Rattle.patch_text.specs.Text.{mask_text}
use Rattle.checkerboard.specs.Board.{square_at}
use Rattle.checkerboard_text.specs.Text.Answered.{accepted}
use Rattle.checkerboard_text.proofs.internal.answer_text.Goals as goal

pub returns-clause-answered : goal.returns-clause-answered
returns-clause-answered c =
    let a = c.in-Some.ensures in
    let w = c.in-Some.size.w in
    let h = c.in-Some.size.h in
    let e = ap (take (w * h)) c.draw.ensures ∙ take_filled (square_at w) (w * h) 0 (replicate 4096 0) (product_le w h 64 64 a.narrow a.low) in
    accepted w h a (c.mask_text.ensures.0 ∙ ap (mask_text w h) e)
