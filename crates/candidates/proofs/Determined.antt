-- What a look finds is decided by the capture and the frame: [14.3] no answer depends on what the work areas
-- held before. Assumes nothing.
use Prim.Native.Nat.{ℕ, ◌≤◌, ◌<◌}
use mathlib.Core.Path.{◌≡◌, sym, ap, subst, ◌∙◌}
use mathlib.Core.List.{List}
use lib.Ieee.{nan}
use lib.ListN.{length, take}
use Rattle.base.specs.Loops.{filled}
use Rattle.base.proofs.Table.{take_filled}
use Rattle.frame.specs.Image.{Image}
use Rattle.frame.specs.declared.FrameSpec.{FrameSpec}
use Rattle.sampling.specs.Luma.{luma_plane}
use Rattle.mask.specs.Mask.{mask_plane}
use Rattle.blobs.specs.Patches.{patch_at}
use Rattle.blobs.proofs.Unique.{list_number, list_records}
use Rattle.candidates.specs.Agreement.{SameLook}
use Rattle.candidates.specs.Areas.{Areas, pixels, integral_length}
use Rattle.candidates.specs.Bounds.{Ready}
use Rattle.candidates.specs.Promises.{Looked}
use Rattle.candidates.specs.Ring.{candidate_at, CandidateList}
use Rattle.candidates.proofs.Unique.{candidates_number, candidates_records}

-- a plane, from two areas that held other things
plane : {A : Type 0} (g : ℕ → A) (n : ℕ) (d : A) (x x' : List A) {y y' : List A} → y ≡ filled g n x → y' ≡ filled g n x' → n ≤ length x
    → n ≤ length x' → take n y ≡ take n y'
plane g n d x x' p p' l l' = ap (take n) p ∙ take_filled g n d x l ∙ sym (ap (take n) p' ∙ take_filled g n d x' l')

module _ (img : Image) (f : FrameSpec) (a b a' b' : Areas) (n k waited n' k' waited' : ℕ) (h : Looked img f a b n k waited) (h' : Looked img f a' b' n' k' waited') where
  pub same_patches : n ≡ n'
  same_patches = list_number (mask_plane img f) img.w h.patches h'.patches

  pub same_waited : waited ≡ waited'
  same_waited = h.waited_is ∙ sym h'.waited_is

  pub same_patch : (j : ℕ) → j < n → patch_at b.patches j ≡ patch_at b'.patches j
  same_patch j l = list_records (mask_plane img f) img.w h.patches h'.patches j l

  others : CandidateList (mask_plane img f) (luma_plane img) img.w img.h (patch_at b'.patches) n a'.candidates a'.blob_index b'.candidates b'.blob_index k'
  others =
      subst (λ z. CandidateList (mask_plane img f) (luma_plane img) img.w img.h (patch_at b'.patches) z a'.candidates
      a'.blob_index b'.candidates b'.blob_index k') (sym same_patches) h'.candidates

  pub same_candidates : k ≡ k'
  same_candidates = candidates_number (mask_plane img f) (luma_plane img) img.w img.h h.candidates others same_patch

  -- centre, score, size and place
  pub same_candidate : (i : ℕ) → i < k → candidate_at b.candidates b.blob_index i ≡ candidate_at b'.candidates b'.blob_index i
  same_candidate i l = candidates_records (mask_plane img f) (luma_plane img) img.w img.h h.candidates others same_patch i l

  -- all of it, where the areas are long enough
  pub same_look : Ready img f a → Ready img f a' → SameLook img b b' n k
  same_look R R' =
      record {
        luma = plane _ (pixels img) nan _ _ h.luma h'.luma R.luma_room R'.luma_room;
        integral = plane _ (integral_length img) nan _ _ h.integral h'.integral R.integral_room R'.integral_room;
        mask = plane _ (pixels img) 0 _ _ h.mask h'.mask R.mask_room R'.mask_room;
        seen = plane _ (pixels img) 0 _ _ h.seen h'.seen R.seen_room R'.seen_room;
        patches = same_patch;
        candidates = same_candidate;
      }
