-- The text is written up to byte k. Assumes nothing.
use Prim.Native.Nat.{◌+◌}
use mathlib.Core.Path.{◌≡◌}
use Rattle.base.specs.Loops.{by_row, filled}
use Rattle.patch_text.specs.Text.{byte_at}
use Rattle.checkerboard_text.proofs.print.mask_text.Given as goal

abbrev pub invariant-loop-k : goal.invariant-loop-k
invariant-loop-k l = l.out ≡ filled (by_row (l.size.w + 1) (byte_at l.size.w l.mask)) l.k l.fn.out
