-- `geometry::internal::canonical_wrong` meets its contract. Assumes nothing.
use native.Mathlib.Omega.{arith}
use Prim.Native.Nat.{◌*◌}
use Rattle.base.proofs.Arith.{product_le}
use Rattle.geometry.proofs.internal.canonical_wrong.Goals as goal

pub overflow_mul-result-2 : goal.overflow_mul-result-2
overflow_mul-result-2 c =
    let a = c.args in
    record { fits = omega (arith, product_le (3 * a.frame.spec.width) a.frame.spec.height 12288 4096 (omega arith) (omega arith)) }
