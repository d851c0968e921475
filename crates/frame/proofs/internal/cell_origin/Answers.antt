-- `frame::internal::cell_origin` meets its contract. Assumes nothing.
use native.Mathlib.Omega.{arith}
use Rattle.base.proofs.Arith.{product_le}
use Rattle.frame.proofs.internal.cell_origin.Goals as goal

pub overflow_mul-result : goal.overflow_mul-result
overflow_mul-result c = let a = c.args in omega (arith, product_le a.col a.frame.spec.cell 4096 512 (omega arith) (omega arith))

pub overflow_add-result : goal.overflow_add-result
overflow_add-result c = let a = c.args in omega (arith, product_le a.col a.frame.spec.cell 4096 512 (omega arith) (omega arith))

pub overflow_mul-result-2 : goal.overflow_mul-result-2
overflow_mul-result-2 c = let a = c.args in omega (arith, product_le a.row a.frame.spec.cell 4096 512 (omega arith) (omega arith))

pub overflow_add-result-2 : goal.overflow_add-result-2
overflow_add-result-2 c = let a = c.args in omega (arith, product_le a.row a.frame.spec.cell 4096 512 (omega arith) (omega arith))
