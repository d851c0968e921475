-- `blobs::label_blobs` meets its contract. Assumes nothing.
use mathlib.Core.Path.{sym}
use lib.ListN.{length}
use Rattle.blobs.proofs.Refusing.{passes, sized}
use Rattle.blobs.proofs.label_blobs.Goals as goal

pub label-requires : goal.label-requires
label-requires c =
    let a = c.args in
    let p = passes a.w a.h (length a.mask.now) (length a.seen.now) (length a.waiting.now) (length a.patches.now) (sym (c.in_ok-refused.ensures)) in
    (sized a.mask.now a.w a.h p.0 p.1, p.2, p.3, p.4)
