-- `candidates::bullseye::verify_bullseye` meets its contract. Assumes nothing.
use mathlib.Core.Path.{ap, ◌∙◌}
use lib.Ieee.{of_bits, of_int}
use Rattle.float.specs.Floats.{d64}
use Rattle.candidates.specs.Ring.{probes, none_made, share_of, ring_score}
use Rattle.candidates.specs.Bounds.{Probing}
use Rattle.candidates.proofs.Tallies.{probing_more, probing_as}
use Rattle.candidates.proofs.bullseye.verify_bullseye.Goals as goal

all_probes : (c : goal.After-share) →
    let a = c.args in
    Probing a.planes.mask.now a.planes.luma.now a.planes.w a.planes.h (probes a.b) none_made c.probe_all.result
unfolding probes of_bits of_int d64
all_probes c =
    probing_more _ _ _ _ _ _ _ _ _ c.probe-middle.ensures
    (probing_more _ _ _ _ _ _ _ _ _ (probing_as _ _ _ _ c.arms.ensures c.probe_all-dot.ensures)
    (probing_more _ _ _ _ _ _ _ _ _ (probing_as _ _ _ _ c.arms-2.ensures c.probe_all-white.ensures)
    (probing_more _ _ _ _ _ _ _ _ _ (probing_as _ _ _ _ c.arms-3.ensures c.probe_all-black.ensures)
    (probing_as _ _ _ _ c.arms-4.ensures c.probe_all.ensures))))

pub returns : goal.returns
unfolding ring_score
returns c = c.share.ensures ∙ ap share_of (all_probes c).is
