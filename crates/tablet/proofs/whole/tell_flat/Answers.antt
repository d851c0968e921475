-- `tablet::whole::tell_flat` meets its contract. Assumes nothing.
use Rattle.tablet.proofs.Telling.{flat_tested, flat_told}
use Rattle.tablet.proofs.whole.tell_flat.Goals as goal

pub returns-then-untouched : goal.returns-then-untouched
returns-then-untouched c = flat_tested _ _ _ _ _ _ _ c.tell-number.ensures (cc)

pub returns : goal.returns
returns c = flat_told _ _ _ _ _ _ _ c.tell-number.ensures (cc) c.requires.counts_long
