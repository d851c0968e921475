-- `candidates::bullseye::probe_all` meets its contract. Assumes nothing.
use native.Mathlib.Omega.{arith}
use Rattle.candidates.proofs.Tallies.{probing_nothing, probing_next}
use Rattle.candidates.proofs.bullseye.probe_all.Goals as goal

pub loop-p-init : goal.loop-p-init
loop-p-init c = probing_nothing _ _ _ _ _ c.requires.sound

pub loop-p-preserved : goal.loop-p-preserved
loop-p-preserved c = probing_next _ _ _ _ _ c.loop-p.p-index _ _ _ _ (omega arith) c.loop-p.invariant c.probe-t.ensures
