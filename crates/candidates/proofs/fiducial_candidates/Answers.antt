-- `candidates::fiducial_candidates` meets its contract: what `look` leaves, where no test refuses. Assumes nothing.
use mathlib.Core.Path.{sym}
use Rattle.candidates.proofs.Looks.{ready, ready_as}
use Rattle.candidates.proofs.Refusing.{by_lengths}
use Rattle.candidates.proofs.fiducial_candidates.Goals as goal

pub look-requires : goal.look-requires
look-requires c =
    let t = c.in_ok-capture.ensures in
    ready_as t.value.0 t.value.1 (ready _ _ _ (sym (by_lengths _ _ _ _ c.lengths.ensures t.number)))
