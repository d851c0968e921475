-- The ring rule over a picture's planes. Assumes nothing.
use Rattle.std.specs.Prelude.{List, Option, Float}
use Rattle.blobs.specs.declared.Blob.{Blob}
use Rattle.candidates.specs.Ring.{ring_score, ring_of}
use Rattle.candidates.specs.Bounds.{Probing, BlobHeld}
use Rattle.candidates.specs.declared.Probe.{Probe}
use Rattle.candidates.specs.declared.Ring.{Ring}
use Rattle.candidates.specs.declared.Tally.{Tally}
use Rattle.candidates.specs.declared.planes.Planes.{Planes}

abbrev pub ProbingIn : Planes → List Probe → Tally → Tally → Type 0
ProbingIn p l s r = Probing p.mask.now p.luma.now p.w p.h l s r

abbrev pub PatchIn : Planes → Blob → Type 0
PatchIn p b = BlobHeld p.w p.h b

abbrev pub score_in : Planes → Blob → Float
score_in p b = ring_score p.mask.now p.luma.now p.w p.h b

abbrev pub ring_in : Planes → Blob → Option Ring
ring_in p b = ring_of p.mask.now p.luma.now p.w p.h b
