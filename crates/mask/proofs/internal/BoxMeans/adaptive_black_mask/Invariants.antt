-- `mask::internal::BoxMeans::adaptive_black_mask` meets its contract. The loop's invariant: the mask is filled up to row y. Assumes nothing.
use Prim.Native.Nat.{◌≤◌, ◌*◌}
use mathlib.Core.Path.{◌≡◌}
use lib.ListN.{length}
use Rattle.base.specs.Loops.{filled}
use Rattle.mask.specs.Mask.{dark_entry}
use Rattle.mask.proofs.internal.BoxMeans.adaptive_black_mask.Given as goal

abbrev pub invariant-loop-y : goal.invariant-loop-y
invariant-loop-y l = (l.mask ≡ filled (dark_entry l.self.luma.now l.self.w l.self.h l.self.radius) (l.y * l.self.w) l.initial.mask) × (l.y ≤ l.self.h) × (length l.mask ≡ length l.initial.mask)
