-- `markers::stamp::stamp_markers` meets its contract. Assumes nothing.
use Rattle.markers.specs.Stamp.{bullseye, bullseyes}
use Rattle.markers.proofs.Painted.{four_lists}
use Rattle.markers.proofs.stamp.stamp_markers.Goals as goal

pub returns : goal.returns
unfolding bullseyes
returns c =
    let a = c.args in
    let k = bullseye a.m a.q in
    four_lists a.w a.h (k a.o.tl.x a.o.tl.y) (k a.o.tr.x a.o.tr.y) (k a.o.br.x a.o.br.y) (k a.o.bl.x a.o.bl.y) a.bytes.now _ _ _ _ c.requires.2
    c.stamp_marker.ensures c.stamp_marker-2.ensures c.stamp_marker-3.ensures c.stamp_marker-4.ensures
