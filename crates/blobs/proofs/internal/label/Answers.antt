-- `blobs::internal::label` meets its contract. Assumes nothing.
use Prim.Native.Nat.{◌*◌}
use mathlib.Core.Path.{sym}
use lib.Seq.{length-take-le}
use Rattle.blobs.proofs.Whole.{labels_whole}
use Rattle.blobs.proofs.internal.label.Goals as goal

pub slice_bounds-label_exact-end-2 : goal.slice_bounds-label_exact-end-2
slice_bounds-label_exact-end-2 c =
    sym (length-take-le (c.args.w * c.args.h) c.args.seen.now c.requires.1)

pub slice_bounds-label_exact-end-4 : goal.slice_bounds-label_exact-end-4
slice_bounds-label_exact-end-4 c =
    sym (length-take-le (c.args.w * c.args.h) c.args.waiting.now c.requires.2)

pub label_exact-requires : goal.label_exact-requires
label_exact-requires c =
    let n = c.args.w * c.args.h in
    (c.requires.0, length-take-le n c.args.seen.now c.requires.1, length-take-le n c.args.waiting.now c.requires.2, c.requires.3)

pub returns : goal.returns
returns c =
    let s = c.args in
    let v = c.label_exact in
    labels_whole s.mask.now s.w s.h s.seen.now s.waiting.now s.patches.now v.new.seen v.new.waiting v.new.patches v.result.patches v.result.waited c.requires.1 c.requires.2 v.ensures
