-- The first i pixels are written. Assumes nothing.
use mathlib.Core.Path.{◌≡◌}
use Rattle.base.specs.Loops.{filled}
use Rattle.patch_text.specs.Steps.{pixel_at}
use Rattle.patch_text.proofs.read.fill.Given as goal

abbrev pub invariant-loop-i : goal.invariant-loop-i
invariant-loop-i l = l.mask ≡ filled (pixel_at l.text l.fn.size.w) l.i l.fn.mask
