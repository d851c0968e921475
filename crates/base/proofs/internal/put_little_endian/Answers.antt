-- `base::internal::put_little_endian` meets its contract. The loop's invariant: the bytes before the index are written. Assumes nothing.
use native.Mathlib.Omega.{arith}
use mathlib.Core.Path.{refl}
use Rattle.base.proofs.Bytes.{le_bytes_begin, le_bytes_step, le_bytes_end, past_step}
use Rattle.base.proofs.internal.put_little_endian.Goals as goal

pub loop-byte-init : goal.loop-byte-init
loop-byte-init c = (le_bytes_begin _ _, refl)

pub loop-byte-preserved : goal.loop-byte-preserved
loop-byte-preserved c =
    let l = c.loop-byte in
    let a = c.args in (
      le_bytes_step a.v l.byte-index l.rest l.area a.area.now l.invariant.0 l.invariant.1 (omega arith),
      past_step a.v l.byte-index l.rest l.invariant.1,
    )

pub returns : goal.returns
returns c = let l = c.loop-byte in le_bytes_end c.args.v l.byte-index l.area _ l.invariant.0 (omega arith)
