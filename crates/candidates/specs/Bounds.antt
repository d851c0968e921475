-- What the functions behind `fiducial_candidates` ask and keep: bounds, and the stores of one record. Assumes nothing.
use Rattle.std.specs.Prelude.{ℕ, ◌+◌, ◌*◌, ◌/◌, ◌^◌, ◌≤◌, ◌<◌, ◌≡◌, false, List, length, set, Float}
use Rattle.blobs.specs.declared.Blob.{Blob}
use Rattle.blobs.specs.Patches.{PatchList, record_length}
use Rattle.frame.specs.Image.{Image}
use Rattle.frame.specs.Limits.{FrameHeld, CaptureHeld}
use Rattle.frame.specs.declared.FrameSpec.{FrameSpec}
use Rattle.markers.specs.Layout.{no_layout}
use Rattle.candidates.specs.Areas.{Areas}
use Rattle.candidates.specs.Held.{PlanesHeld}
use Rattle.candidates.specs.Ring.{probed, candidate_length}
use Rattle.candidates.specs.declared.Probe.{Probe}
use Rattle.candidates.specs.declared.Tally.{Tally}
use Rattle.candidates.specs.declared.Ring.{Ring}

-- the record of a patch in it
pub record BlobHeld (w h : ℕ) (t : Blob) : Type 0 where
  pub x_ordered : t.x0 ≤ t.x1
  pub x_in : t.x1 < w
  pub y_ordered : t.y0 ≤ t.y1
  pub y_in : t.y1 < h
  pub area_held : t.area ≤ 2 ^ 53
  pub sx_held : t.sx ≤ 2 ^ 53
  pub sy_held : t.sy ≤ 2 ^ 53

-- no number of a tally is above that of the probes made
pub record Sound (s : Tally) : Type 0 where
  pub hits : s.hits ≤ s.made
  pub darks : s.darks ≤ s.made
  pub lights : s.lights ≤ s.made

-- the probes l, made after s, give r
pub record Probing (m : List ℕ) (luma : List Float) (w h : ℕ) (l : List Probe) (s r : Tally) : Type 0 where
  pub is : r ≡ probed m luma w h l s
  pub sound : Sound r
  pub few : r.made ≤ s.made + length l

-- the list once the record of a patch that passed is stored after k others
unfoldable pub stored_record : Ring → ℕ → List Float → List Float
stored_record r k c =
    let i = candidate_length * k in
    set (set (set (set c i r.center.x) (i + 1) r.center.y) (i + 2) r.score) (i + 3) r.size

-- the planes, the list of their patches, and areas of the smallest length or longer
pub record Listable (w h : ℕ) (m : List ℕ) (luma : List Float) (l : List ℕ) (n : ℕ) (c : List Float) (p : List ℕ)
    : Type 0 where
  pub planes : PlanesHeld w h m luma
  pub before : List ℕ
  pub firsts : List ℕ
  pub patches : PatchList m w before l n firsts
  pub patches_long : record_length * n ≤ length l
  pub candidates_long : candidate_length * (w * h / 32) ≤ length c
  pub places_long : w * h / 32 ≤ length p

-- what the tests leave, where none of them holds
pub record Ready (img : Image) (f : FrameSpec) (a : Areas) : Type 0 where
  pub frame : FrameHeld f
  pub capture : CaptureHeld img
  pub layout : no_layout f ≡ false
  pub wide : 32 ≤ img.w
  pub high : 32 ≤ img.h
  pub luma_room : img.w * img.h ≤ length a.luma
  pub integral_room : (img.w + 1) * (img.h + 1) ≤ length a.integral
  pub mask_room : img.w * img.h ≤ length a.mask
  pub seen_room : img.w * img.h ≤ length a.seen
  pub waiting_room : img.w * img.h ≤ length a.waiting
  pub patches_room : record_length * ((img.w * img.h + 1) / 2) ≤ length a.patches
  pub candidates_room : candidate_length * (img.w * img.h / 32) ≤ length a.candidates
  pub places_room : img.w * img.h / 32 ≤ length a.blob_index
