-- A field is written for each number before. Assumes nothing.
use Prim.Native.Nat.{◌*◌}
use lib.ListN.{get_or}
use Rattle.base.specs.Loops.{joined}
use Rattle.patch_text.specs.Text.{blank, field}
use Rattle.patch_text.specs.Steps.{Written}
use Rattle.patch_text.proofs.print.put_record.Given as goal

abbrev pub invariant-loop-n : goal.invariant-loop-n
invariant-loop-n l =
    Written l.fn.out l.out l.at l.end (21 * l.n-index) (joined (λ i. field (get_or l.n-items i 0) blank) l.n-index)
