-- `candidates::bullseye::probe_all` meets its contract. Assumes nothing.
use lib.ListN.{take}
use Rattle.candidates.specs.Bounds.{Probing}
use Rattle.candidates.proofs.bullseye.probe_all.Given as goal

abbrev pub invariant-loop-p : goal.invariant-loop-p
invariant-loop-p l = Probing l.planes.mask.now l.planes.luma.now l.planes.w l.planes.h (take l.p-index l.probes) l.initial.t l.t
