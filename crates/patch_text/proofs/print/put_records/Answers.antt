-- `patch_text::print::put_records` meets its contract. Assumes nothing.
use Prim.Native.Nat.{◌*◌}
use native.Mathlib.Omega.{arith}
use mathlib.Core.Path.{◌≡◌, subst}
use Rattle.base.specs.Loops.{table}
use Rattle.blobs.specs.Patches.{patch_at}
use Rattle.patch_text.specs.Text.{record_lines}
use Rattle.patch_text.specs.Steps.{Written}
use Rattle.patch_text.proofs.Numbers.{written_none, written_line}
use Rattle.patch_text.proofs.print.put_records.Goals as goal

pub loop-j-init : goal.loop-j-init
loop-j-init c = written_none c.args.out.now c.args.at (patch_at c.args.patches.now)

pub put_record-end-requires : goal.put_record-end-requires
put_record-end-requires c = omega (arith, c.loop-j.invariant.to)

pub loop-j-preserved : goal.loop-j-preserved
loop-j-preserved c =
    let a = c.args in
    let l = c.loop-j in
    let v = c.put_record-end in
    written_line a.out.now l.out v.new.out a.at l.end v.result l.j (patch_at a.patches.now) c.blob_at.result c.blob_at.ensures l.invariant v.ensures

pub returns : goal.returns
returns c =
    let a = c.args in
    let l = c.loop-j in
    let e : l.j ≡ a.n = omega arith in
    subst (λ k. Written a.out.now l.out a.at l.end (168 * k) (record_lines (table (patch_at a.patches.now) k))) e l.invariant
