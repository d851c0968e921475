-- Patch and candidate lists as lent slices of records (requirements, 16.8). Assumes nothing.
use Rattle.float.specs.Floats.{f64}
use Rattle.blobs.specs.declared.Blob.{Blob}
use Rattle.candidates.specs.declared.Candidate.{Candidate}

-- what stands for a record that a list does not have
abbrev pub no_patch : Blob
no_patch = record { area = 0; sx = 0; sy = 0; x0 = 0; y0 = 0; x1 = 0; y1 = 0; outline = 0 }

abbrev pub no_candidate : Candidate
no_candidate = record { center = record { x = f64 0; y = f64 0 }; score = f64 0; size = f64 0; blob_index = 0 }
