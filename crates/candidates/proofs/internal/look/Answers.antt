-- `candidates::internal::look` meets its contract: what `planes`, `label` and `list` leave. Assumes nothing.
use Rattle.candidates.proofs.Looks.{fronts, labels_as, candidates_as, looked}
use Rattle.candidates.proofs.internal.look.Goals as goal

pub returns-clause-looked : goal.returns-clause-looked
returns-clause-looked c =
    let front = fronts _ _ _ c.requires c.planes.ensures in
    looked _ _ _ c.requires c.planes.ensures (labels_as front.mask_is c.label-labelled.ensures) (candidates_as front.mask_is front.luma_is c.list-k.ensures)
