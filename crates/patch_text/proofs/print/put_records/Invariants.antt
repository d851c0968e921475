-- The first j lines are written. Assumes nothing.
use Prim.Native.Nat.{◌*◌}
use Rattle.base.specs.Loops.{table}
use Rattle.blobs.specs.Patches.{patch_at}
use Rattle.patch_text.specs.Text.{record_lines}
use Rattle.patch_text.specs.Steps.{Written}
use Rattle.patch_text.proofs.print.put_records.Given as goal

abbrev pub invariant-loop-j : goal.invariant-loop-j
invariant-loop-j l = Written l.fn.out l.out l.at l.end (168 * l.j) (record_lines (table (patch_at l.patches) l.j))
