-- The patches that `pick` names among the candidates are the outermost ones, by meaning. Assumes nothing.
use mathlib.Core.Path.{◌≡◌, sym, ap, subst, ◌∙◌}
use mathlib.Core.Bool.{not}
use mathlib.Core.Logic.{⊎_elim}
use mathlib.Core.List.{List}
use Prim.Native.Nat.{ℕ, ◌≤◌, ◌<◌}
use native.Mathlib.Nat.{eq-or-lt_of_le}
use native.Mathlib.Omega.{arith}
use lib.Dec.{T, T_not}
use lib.Ieee.{Float}
use lib.ListN.{get_or}
use Rattle.frame.specs.declared.FrameSpec.{FrameSpec}
use Rattle.candidates.specs.declared.Candidate.{Candidate}
use Rattle.blobs.specs.declared.Blob.{Blob}
use Rattle.frame.specs.declared.Point.{Point}
use Rattle.frame.specs.Image.{Image}
use Rattle.sampling.specs.Luma.{luma_plane}
use Rattle.mask.specs.Mask.{mask_plane}
use Rattle.blobs.specs.Patches.{PatchOf, PatchList, patch_at}
use Rattle.candidates.specs.Ring.{CandidateList, center_at, candidate_at, candidate_of, passes, center}
use Rattle.fiducials.specs.declared.pick.Corner.{Corner}
use Rattle.fiducials.specs.Corners.{Passing, Outermost, further, pick}
use Rattle.fiducials.proofs.Picks.{Number, Best, pick_below}
use Rattle.fiducials.proofs.Furthest.{pick_best}
use Rattle.base.proofs.Arith.{le_or_lt}
use Rattle.blobs.proofs.Unique.{listed, patch_unique}

module _ (img : Image) (f : FrameSpec) {l l' : List ℕ} {n : ℕ} {firsts : List ℕ} {c c' : List Float} {p p' : List ℕ} {k : ℕ}
    (patches : PatchList (mask_plane img f) img.w l l' n firsts)
    (candidates : CandidateList (mask_plane img f) (luma_plane img) img.w img.h (patch_at l') n c p c' p' k) where
  -- the centre of candidate i, and its patch's place
  abbrev pub candidate_center : ℕ → Point
  candidate_center i = center_at c' i

  abbrev pub place : ℕ → ℕ
  place i = get_or p' i 0

  pub same_center : (i : ℕ) → i < k → candidate_center i ≡ center (patch_at l' (place i))
  unfolding candidate_at candidate_of
  same_center i h = ap (λ (x : Candidate). x.center) (candidates.records i h)

  pub candidate_passes : (i : ℕ) → i < k → Passing img f (get_or firsts (place i) 0) (patch_at l' (place i))
  candidate_passes i h =
      record { first = patches.first (place i) (candidates.listed i h); is = patches.records (place i) (candidates.listed i h); ring = candidates.passing i h }

  -- a passing patch is a candidate
  pub found : (q : ℕ) (u : Blob) → Passing img f q u → (i : ℕ) × (i < k) × (get_or firsts (place i) 0 ≡ q) × (candidate_center i ≡ center u)
  found q u h = go (listed (mask_plane img f) img.w patches q h.first)
    where
      go : (j : ℕ) × (j < n) × (get_or firsts j 0 ≡ q) → (i : ℕ) × (i < k) × (get_or firsts (place i) 0 ≡ q) × (candidate_center i ≡ center u)
      go (j) =
          let e : patch_at l' j.0 ≡ u = patch_unique (mask_plane img f) img.w q (patch_at l' j.0) u
          (subst (λ z. PatchOf (mask_plane img f) img.w z (patch_at l' j.0)) j.2 (patches.records j.0 j.1)) h.is in
          let i = candidates.every j.0 j.1 (subst (λ z. T (passes (mask_plane img f) (luma_plane img) img.w img.h z)) (sym e) h.ring) in
          (i.0, i.1, ap (λ z. get_or firsts z 0) i.2 ∙ j.2, same_center i.0 i.1 ∙ ap (λ z. center (patch_at l' z)) i.2 ∙ ap center e)

  -- [9.1] ties go to the earlier candidate, which is the earlier patch in raster order
  pub earlier : (i j : ℕ) → i ≤ j → j < k → get_or firsts (place i) 0 ≤ get_or firsts (place j) 0
  earlier i j h r = ⊎_elim
      (λ e. subst (λ z. get_or firsts (place i) 0 ≤ get_or firsts (place z) 0) e (omega arith))
      (λ e. let x : place i < place j = candidates.ordered i j e r in let y : get_or firsts (place i) 0 < get_or firsts (place j) 0 = patches.ordered (place i) (place j) x (candidates.listed j r) in omega arith)
      (eq-or-lt_of_le h)

  -- where the keys are numbers, the pick is outermost
  pub pick_outermost : (d : Corner) → 0 < k → ((i : ℕ) → i < k → Number d (candidate_center i))
      → Outermost img f d (get_or firsts (place (pick d candidate_center k)) 0) (patch_at l' (place (pick d candidate_center k)))
  pick_outermost d some number =
      let b = pick d candidate_center k in
      let lb : b < k = pick_below d candidate_center k some in
      let best : Best d candidate_center k b = pick_best d candidate_center k number in
      let eb : candidate_center b ≡ center (patch_at l' (place b)) = same_center b lb in
      record {
        passing = candidate_passes b lb;
        none_further = λ q u h.
            let i = found q u h in
            subst (λ z. T (not (further d z (center (patch_at l' (place b)))))) i.3
            (subst (λ z. T (not (further d (candidate_center i.0) z))) eb (best.none_further i.0 i.1));
        first_of_equals = λ q u h g.
            let i = found q u h in
            subst (λ z. get_or firsts (place b) 0 ≤ z) i.2
            (⊎_elim
            (λ e. earlier b i.0 e i.1)
            (λ e. absurd (T_not (further d (candidate_center b) (candidate_center i.0))
            (subst (λ z. T (not (further d z (candidate_center i.0)))) (sym eb)
            (subst (λ z. T (not (further d (center (patch_at l' (place b))) z))) (sym i.3) g)) (best.first i.0 e)))
            (le_or_lt b i.0));
      }
