-- `base::internal::little_endian` meets its contract. The loop's invariant: v is the number of the bytes from k on. Assumes nothing.
use Prim.Native.Nat.{◌<◌, ◌+◌, ◌-◌, ◌^◌}
use mathlib.Core.Path.{◌≡◌}
use Rattle.base.specs.Bytes.{little_endian}
use Rattle.base.proofs.internal.little_endian.Given as goal

abbrev pub invariant-loop-k : goal.invariant-loop-k
invariant-loop-k l = (l.v ≡ little_endian (l.n - l.k) l.b (l.p + l.k)) × (l.v < 256 ^ (l.n - l.k))
