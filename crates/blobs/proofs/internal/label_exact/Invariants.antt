-- The scan up to the pixel i, and what lies past its records. Assumes nothing.
use Prim.Native.Nat.{◌*◌}
use mathlib.Core.Path.{◌≡◌}
use lib.ListN.{drop}
use Rattle.base.specs.Loops.{table, turns}
use Rattle.blobs.specs.Patches.{record_length, patch_at}
use Rattle.blobs.specs.Stack.{scanned, scan, unmarked}
use Rattle.blobs.proofs.internal.label_exact.Given as goal

abbrev pub invariant-loop-i : goal.invariant-loop-i
invariant-loop-i l =
    record {
      state : scanned l.seen (table (patch_at l.patches) l.c.patches) l.c.waited ≡ turns l.i (scan l.mask l.w) (unmarked l.mask);
      rest : drop (record_length * l.c.patches) l.patches ≡ drop (record_length * l.c.patches) l.fn.patches;
    }
