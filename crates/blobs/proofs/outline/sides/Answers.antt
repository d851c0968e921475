-- `blobs::outline::sides` meets its contract. Assumes nothing.
use Prim.Native.Nat.{◌+◌}
use native.Mathlib.Omega.{arith}
use mathlib.Core.Path.{ap₂, ◌∙◌}
use Rattle.blobs.proofs.Around.{all_inside, sides_to, side_to_most}
use Rattle.blobs.proofs.outline.sides.Goals as goal

pub side-left-requires : goal.side-left-requires
side-left-requires c = (all_inside c.around-near.result c.around-near.ensures c.requires.0).left

pub side-right-requires : goal.side-right-requires
side-right-requires c = (all_inside c.around-near.result c.around-near.ensures c.requires.0).right

pub side-up-requires : goal.side-up-requires
side-up-requires c = (all_inside c.around-near.result c.around-near.ensures c.requires.0).up

pub side-down-requires : goal.side-down-requires
side-down-requires c = (all_inside c.around-near.result c.around-near.ensures c.requires.0).down

pub overflow_add-result : goal.overflow_add-result
overflow_add-result c = omega (arith, side_to_most)

pub overflow_add-result-2 : goal.overflow_add-result-2
overflow_add-result-2 c = omega (arith, side_to_most)

pub overflow_add-result-3 : goal.overflow_add-result-3
overflow_add-result-3 c = omega (arith, side_to_most)

pub returns : goal.returns
returns c =
    ap₂ ◌+◌ (ap₂ ◌+◌ (ap₂ ◌+◌ c.side-left.ensures c.side-right.ensures) c.side-up.ensures) c.side-down.ensures
    ∙ sides_to _ _ _ c.around-near.result c.around-near.ensures
