-- `base::internal::little_endian` meets its contract. The loop's invariant: v is the number of the bytes from k on. Assumes nothing.
use native.Mathlib.Omega.{arith}
use Prim.Native.Nat.{◌<◌, ◌+◌, ◌-◌, ◌^◌}
use mathlib.Core.Path.{◌≡◌, ap}
use lib.ListN.{get_or}
use Rattle.base.proofs.Bytes.{little_endian_begin, little_endian_step, little_endian_end, below_step, below_room}
use Rattle.base.proofs.internal.little_endian.Goals as goal

pub loop-k-init : goal.loop-k-init
loop-k-init c =
    let n = c.args.n in
    let z : n - n ≡ 0 = omega arith in (
      little_endian_begin _ _ _,
      omega (arith, ap (λ m. 256 ^ m) z),
    )

pub overflow_mul-v : goal.overflow_mul-v
overflow_mul-v c = let l = c.loop-k in let h : l.v < 2 ^ 56 = below_room l.v _ l.invariant.1 (omega arith) in omega arith

pub overflow_add-v : goal.overflow_add-v
overflow_add-v c = let l = c.loop-k in let h : l.v < 2 ^ 56 = below_room l.v _ l.invariant.1 (omega arith) in omega arith

pub loop-k-preserved : goal.loop-k-preserved
loop-k-preserved c =
    let l = c.loop-k in
    let at = c.args.p + (l.k - 1) in
    let byte : get_or c.args.b.now at 0 < 256 = omega (arith, c.type_inv.b at) in
    rw c.from.ensures (
      little_endian_step c.args.b.now c.args.n c.args.p l.k l.v (omega arith) (omega arith) c.requires.0 l.invariant.0,
      below_step c.args.b.now c.args.n c.args.p l.k l.v (omega arith) (omega arith) c.requires.0 l.invariant.1 byte,
    )

pub returns : goal.returns
returns c = let l = c.loop-k in little_endian_end _ _ _ l.k _ (omega arith) l.invariant
