-- The corner theorem with no hypothesis on keys: in a capture within the limits the picks are the outermost patches. Assumes nothing.
use mathlib.Core.Path.{sym, subst}
use mathlib.Core.List.{List}
use Prim.Native.Nat.{ℕ, ◌*◌, ◌^◌, ◌≤◌, ◌<◌}
use native.Mathlib.Nat.{le_trans, le_of_eq}
use native.Mathlib.Omega.{arith}
use lib.Dec.{leb→le}
use lib.Ieee.{Float}
use lib.ListN.{length, get_or}
use Rattle.frame.specs.declared.FrameSpec.{FrameSpec}
use Rattle.blobs.specs.declared.Blob.{Blob}
use Rattle.base.proofs.Table.{length_table}
use Rattle.frame.specs.Image.{Image}
use Rattle.sampling.specs.Luma.{luma_plane}
use Rattle.mask.specs.Mask.{mask_plane, mask_entry}
use Rattle.blobs.specs.Patches.{PatchList, patch_at}
use Rattle.candidates.specs.Ring.{CandidateList, center}
use Rattle.fiducials.specs.declared.pick.Corner.{Corner}
use Rattle.fiducials.specs.Corners.{Passing, Outermost, pick}
use Rattle.candidates.proofs.Held.{pixels_held, sums_held}
use Rattle.candidates.proofs.Rules.{passes_area}
use Rattle.fiducials.proofs.Picks.{Number}
use Rattle.fiducials.proofs.Keys.{center_finite, key_number_lem}
use Rattle.fiducials.proofs.Named.{candidate_center, place, same_center, candidate_passes, pick_outermost}

module _ (img : Image) (f : FrameSpec) (w_held : img.w ≤ 4096) (h_held : img.h ≤ 4096) where
  mask_long : length (mask_plane img f) ≤ 16777216
  unfolding mask_plane
  mask_long = le_trans (le_of_eq (length_table (mask_entry img f) (img.w * img.h))) (pixels_held img.w img.h w_held h_held)

  -- a passing patch's centre has finite coordinates, so its keys are numbers
  pub passing_number : (c : Corner) (p : ℕ) (t : Blob) → Passing img f p t → Number c (center t)
  passing_number c p t h =
      let s = sums_held (mask_plane img f) img.w p t mask_long h.is in
      let a : 2 ^ 53 ≤ 2 ^ 60 = leb→le (2 ^ 53) (2 ^ 60) tt in
      let o : 32 ≤ t.area = passes_area (mask_plane img f) (luma_plane img) img.w img.h t h.ring in
      let x = center_finite t (omega arith) (le_trans s.area a) (le_trans s.sx a) (le_trans s.sy a) in
      key_number_lem c (center t) x.0 x.1

  module _ {l l' : List ℕ} {n : ℕ} {firsts : List ℕ} {c c' : List Float} {p p' : List ℕ} {k : ℕ}
      (patches : PatchList (mask_plane img f) img.w l l' n firsts)
      (candidates : CandidateList (mask_plane img f) (luma_plane img) img.w img.h (patch_at l') n c p c' p' k) where
    -- demand 3: the pick toward a corner is the outermost passing patch, the first of equals
    pub picks_outermost : (d : Corner) → 0 < k
        → Outermost img f d (get_or firsts (place img f patches candidates (pick d (candidate_center img f patches candidates) k)) 0)
        (patch_at l' (place img f patches candidates (pick d (candidate_center img f patches candidates) k)))
    picks_outermost d some =
        pick_outermost img f patches candidates d some
        (λ i h. subst (λ z. Number d z) (sym (same_center img f patches candidates i h)) (passing_number d (get_or firsts (place img f patches
        candidates i) 0) (patch_at l' (place img f patches candidates i)) (candidate_passes img f patches candidates i h)))
