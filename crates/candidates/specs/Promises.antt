-- What `fiducial_candidates` does. Assumes nothing.
use Rattle.std.specs.Prelude.{ℕ, ◌≤◌, ◌≡◌, List, length, drop, Result, Ok, Err}
use Rattle.base.specs.Loops.{table, filled}
use Rattle.frame.specs.Image.{Image}
use Rattle.frame.specs.Refusals.{lowest_of}
use Rattle.sampling.specs.Luma.{luma_at, luma_plane}
use Rattle.mask.specs.Mask.{integral_entry, mask_entry, mask_plane}
use Rattle.blobs.specs.Patches.{patch_at, Waited, PatchList}
use Rattle.blobs.specs.Stack.{scan_all, waited_of}
use Rattle.blobs.specs.Moments.{MostHeld}
use Rattle.candidates.specs.Ring.{CandidateList}
use Rattle.candidates.specs.Areas.{Areas, pixels, integral_length, look_tests}
use Rattle.frame.specs.declared.FrameSpec.{FrameSpec}
use Rattle.frame.specs.declared.refusals.Refusal.{Refusal}
use Rattle.candidates.specs.declared.Counts.{Counts}

-- ---- the planes and lists after a look at the picture that found n patches and k candidates (waited: the most pixels
-- that waited). [2.18] So it is after an acceptance, and after 7 to 10
pub record Looked (img : Image) (f : FrameSpec) (a b : Areas) (n k waited : ℕ) : Type 0 where
  -- [2.18] luma, integral and mask hold their planes; [3.2] entries past the smallest lengths stay as they were
  pub luma : b.luma ≡ filled (luma_at img) (pixels img) a.luma
  pub integral : b.integral ≡ filled (integral_entry (luma_plane img) img.w) (integral_length img) a.integral
  pub mask : b.mask ≡ filled (mask_entry img f) (pixels img) a.mask
  -- [2.18] the visited marks equal the mask
  pub seen : b.seen ≡ filled (mask_entry img f) (pixels img) a.seen
  -- [0.7] the patch list starts with every patch once, in raster order, and their areas add up to the dark pixels
  pub firsts : List ℕ
  pub patches : PatchList (mask_plane img f) img.w a.patches b.patches n firsts
  -- [2.18] the candidate list starts with all its records
  pub candidates :
      CandidateList (mask_plane img f) (luma_plane img) img.w img.h (patch_at b.patches) n a.candidates
      a.blob_index b.candidates b.blob_index k
  -- [25.1, 25.6] the most that the search's stack ever holds, over all patches
  pub most_held : MostHeld (mask_plane img f) img.w waited
  -- [7.5] 0 without dark pixels and otherwise from 1 up; [25.5] the largest area remains an upper limit
  pub waited_held : Waited b.patches n waited
  -- [14.3] whatever the areas held before: the patch records and that number are functions of the mask
  pub patches_are : table (patch_at b.patches) n ≡ (scan_all (mask_plane img f) img.w).blobs
  pub waited_is : waited ≡ waited_of (mask_plane img f) img.w
  -- [14.2] the waiting list is free; [3.2] past its smallest length it stays as it was
  pub waiting_long : length b.waiting ≡ length a.waiting
  pub waiting_rest : drop (pixels img) b.waiting ≡ drop (pixels img) a.waiting

-- ---- `fiducial_candidates`: its refusal's number, or 0; [2.15] accepts with any number of candidates
pub record Listing (img : Image) (f : FrameSpec) (a b : Areas) (number n k waited : ℕ) : Type 0 where
  pub given : number ≡ lowest_of (look_tests img f a)
  pub accepted : lowest_of (look_tests img f a) ≡ 0 → Looked img f a b n k waited
  pub refused : 1 ≤ lowest_of (look_tests img f a) → (b ≡ a) × (n ≡ 0) × (k ≡ 0) × (waited ≡ 0)

-- the counts in its answer: 0 where it is refused
abbrev pub no_counts : Counts
no_counts = record { patches = 0; candidates = 0; waited = 0 }

abbrev pub counts_of : Result Counts Refusal → Counts
counts_of (Ok c) = c
counts_of (Err r) = no_counts
