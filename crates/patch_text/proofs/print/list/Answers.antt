-- `patch_text::print::list` meets its contract. Assumes nothing.
use native.Mathlib.Omega.{arith}
use Rattle.blobs.specs.Patches.{patch_at}
use Rattle.patch_text.proofs.Numbers.{listed_text}
use Rattle.patch_text.proofs.print.list.Goals as goal

pub returns : goal.returns
returns c =
    let a = c.args in
    let v = c.put_records in (
      listed_text a.out.now c.put-width.new.out c.put-sides.new.out c.put-head.new.out v.new.out c.put-width.result c.put-sides.result c.put-head.result v.result
          a.size.w a.size.h a.n (patch_at a.patches.now) c.put-width.ensures c.put-sides.ensures c.put-head.ensures v.ensures,
      omega (arith, v.ensures.to, c.put-head.ensures.to, c.put-sides.ensures.to, c.put-width.ensures.to),
    )
