-- `mask::internal::BoxMeans::mask_row` meets its contract. The loop's invariant: the mask is filled up to column x of the row. Assumes nothing.
use mathlib.Core.List.{List}
use Prim.Native.Nat.{ℕ, ◌≤◌, ◌+◌, ◌*◌}
use mathlib.Core.Path.{◌≡◌}
use lib.ListN.{length}
use Rattle.base.specs.Loops.{filled}
use Rattle.mask.specs.Mask.{dark_entry}
use Rattle.mask.proofs.internal.BoxMeans.mask_row.Given as goal

abbrev pub invariant-loop-x : goal.invariant-loop-x
invariant-loop-x v =
    ((l : List ℕ) → v.initial.mask ≡ filled (dark_entry v.self.luma.now v.self.w v.self.h v.self.radius) (v.y * v.self.w) l → v.mask ≡ filled (dark_entry v.self.luma.now v.self.w v.self.h v.self.radius) (v.y * v.self.w + v.x) l)
    × (v.x ≤ v.self.w)
    × (length v.mask ≡ length v.initial.mask)
