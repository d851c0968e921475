-- `base::internal::put_little_endian` meets its contract. The loop's invariant: the first k bytes are written. Assumes nothing.
use mathlib.Core.Path.{◌≡◌}
use Rattle.base.specs.Bytes.{le_bytes}
use Rattle.base.proofs.Bytes.{past}
use Rattle.base.proofs.Over.{over}
use Rattle.base.proofs.internal.put_little_endian.Given as goal

abbrev pub invariant-loop-byte : goal.invariant-loop-byte
invariant-loop-byte l = (l.area ≡ over (le_bytes l.byte-index l.v) l.initial.area) × (l.rest ≡ past l.byte-index l.v)
