-- `mat3_mul` meets its contract. The loop's invariant: the first n entries are the product's. Assumes nothing.
use mathlib.Core.Path.{◌≡◌}
use Rattle.base.specs.Loops.{filled, by_row}
use Rattle.homography.specs.Homography.{product_at}
use Rattle.homography.proofs.mat3_mul.Given as goal

abbrev pub invariant-loop-n : goal.invariant-loop-n
invariant-loop-n l = l.out ≡ filled (by_row 3 (product_at l.a l.b)) l.n l.initial.out
