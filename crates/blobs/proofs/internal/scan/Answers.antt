-- `blobs::internal::scan` meets its contract. Assumes nothing.
use Prim.Native.Nat.{◌+◌, ◌*◌}
use native.Mathlib.Omega.{arith}
use mathlib.Core.Path.{ap, ◌∙◌}
use lib.ListN.{drop}
use Rattle.base.specs.Loops.{table}
use Rattle.blobs.specs.Patches.{record_length, patch_at}
use Rattle.blobs.specs.Stack.{scanned}
use Rattle.blobs.proofs.Records.{stored_rest}
use Rattle.blobs.proofs.Scans.{scan_ready}
use Rattle.blobs.proofs.Stacks.{scan_light, scan_seen, scan_stored}
use Rattle.blobs.proofs.Whole.{scan_at, record_room}
use Rattle.blobs.proofs.internal.scan.Goals as goal
use Rattle.blobs.proofs.internal.scan.Goals.{then-mask-i-eq0-via-then-mask-i-eq0, then-mask-i-eq0-via-else-mask-i-eq0+then-seen-i-ne0}

pub bounds-seen-i : goal.bounds-seen-i
bounds-seen-i c =
    omega (arith, (scan_at c.requires.sized.0 _ c.args.i (omega arith) c.requires.waited_value).long, c.requires.sized.3)

pub returns-then-mask-i-eq0-clause-waited_after : goal.returns-then-mask-i-eq0-clause-waited_after
returns-then-mask-i-eq0-clause-waited_after c =
    elim c.then-mask-i-eq0.branch [
      | then-mask-i-eq0-via-then-mask-i-eq0 w ↦ scan_light _ _ _ _ w.if-mask-i-eq0.true
      | then-mask-i-eq0-via-else-mask-i-eq0+then-seen-i-ne0 w ↦ scan_seen _ _ _ _ w.if-seen-i-ne0.true
    ]

pub flood-f-requires : goal.flood-f-requires
flood-f-requires c =
    let before = scan_at c.requires.sized.0 _ c.args.i (omega arith) c.requires.waited_value in
    (scan_ready before c.requires.sized.3 c.if-mask-i-eq0.false c.if-seen-i-ne0.false, c.requires.sized.1)

pub store-requires : goal.store-requires
store-requires c =
    record_room _ _ _ _ _ c.requires.sized.0 c.requires.sized.3 c.requires.waited_value c.if-mask-i-eq0.false c.if-seen-i-ne0.false c.requires.sized.2

pub overflow_add-result : goal.overflow_add-result
overflow_add-result c =
    let room = record_room _ _ _ _ _ c.requires.sized.0 c.requires.sized.3 c.requires.waited_value c.if-mask-i-eq0.false c.if-seen-i-ne0.false c.requires.sized.2 in
    omega (arith, room)

pub returns-clause-waited_after : goal.returns-clause-waited_after
returns-clause-waited_after c =
    let s = c.args in
    let n = s.c.patches in
    let f = c.flood-f in
    let d = c.if-mask-i-eq0.false in
    let o = c.if-seen-i-ne0.false in
    let room = record_room _ _ _ _ _ c.requires.sized.0 c.requires.sized.3 c.requires.waited_value d o c.requires.sized.2 in
    ap (λ x. scanned f.new.seen (table (patch_at x) (n + 1)) c.max.result) c.store.ensures
    ∙ scan_stored s.mask.now s.w s.i s.seen.now s.patches.now n s.c.waited f.new.seen f.result.blob f.result.waited
    c.max.result d o room f.ensures.waited_after c.max.ensures

pub returns-clause-patches_le_patches : goal.returns-clause-patches_le_patches
returns-clause-patches_le_patches c =
    let n = c.args.c.patches in
    (omega arith, ap (drop (record_length * (n + 1))) c.store.ensures ∙ stored_rest c.args.patches.now n c.flood-f.result.blob (n + 1) (omega arith))
