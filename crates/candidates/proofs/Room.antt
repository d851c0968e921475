-- Room for the candidates: the patches' areas add up to the dark pixels, and each candidate has 32 of them or more. Assumes nothing.
use Prim.Native.Nat.{ℕ, zero, suc, ◌+◌, ◌*◌, ◌≤◌, ◌<◌}
use mathlib.Core.Path.{◌≡◌}
use mathlib.Core.List.{List}
use native.Mathlib.Omega.{arith}
use lib.ListN.{length, get_or}
use lib.Ieee.{Float}
use Rattle.blobs.specs.Patches.{total, one, ink, patch_at, PatchList}
use Rattle.blobs.proofs.Sums.{total_next}
use Rattle.candidates.specs.Ring.{CandidateList}
use Rattle.candidates.proofs.Rules.{passes_area}
use Rattle.candidates.proofs.Sums.{ink_few, total_grows}

module _ {m : List ℕ} {luma : List Float} {w h : ℕ} {l l' : List ℕ} {n : ℕ} {firsts : List ℕ} {c : List Float} {p : List ℕ} {c' : List Float} {p' : List ℕ} {k : ℕ}
    (P : PatchList m w l l' n firsts) (C : CandidateList m luma w h (patch_at l') n c p c' p' k) where
  abbrev area : ℕ → ℕ
  area j = (patch_at l' j).area

  large : (i : ℕ) → i < k → 32 ≤ area (get_or p' i 0)
  large i r = passes_area m luma w h (patch_at l' (get_or p' i 0)) (C.passing i r)

  -- the first i + 1 candidates' areas, among those of the patches up to the last of them
  up_to : (i : ℕ) → i < k → 32 * (i + 1) ≤ total area one (get_or p' i 0 + 1)
  up_to zero r =
      let a : 32 ≤ area (get_or p' 0 0) = large 0 r in
      let b : total area one (get_or p' 0 0 + 1) ≡ total area one (get_or p' 0 0) + area (get_or p' 0 0) = total_next area (get_or p' 0 0) in
      omega arith
  up_to (suc i) r =
      let a : 32 ≤ area (get_or p' (suc i) 0) = large (suc i) r in
      let b : total area one (get_or p' (suc i) 0 + 1) ≡ total area one (get_or p' (suc i) 0) + area (get_or p' (suc i) 0) = total_next area (get_or p' (suc i) 0) in
      let d : get_or p' i 0 < get_or p' (suc i) 0 = C.ordered i (suc i) (omega arith) r in
      let e : 32 * (i + 1) ≤ total area one (get_or p' i 0 + 1) = up_to i (omega arith) in
      let g : total area one (get_or p' i 0 + 1) ≤ total area one (get_or p' (suc i) 0) = total_grows area (get_or p' i 0 + 1) (get_or p' (suc i) 0) (omega arith) in
      omega arith

  few : (j : ℕ) → j ≤ k → 32 * j ≤ length m
  few zero r = omega arith
  few (suc j) r =
      let a : 32 * (j + 1) ≤ total area one (get_or p' j 0 + 1) = up_to j (omega arith) in
      let b : get_or p' j 0 < n = C.listed j (omega arith) in
      let d : total area one (get_or p' j 0 + 1) ≤ total area one n = total_grows area (get_or p' j 0 + 1) n (omega arith) in
      let e : total area one n ≡ total one (ink m) (length m) = P.areas in
      let g : total one (ink m) (length m) ≤ length m = ink_few m (length m) in
      omega arith

  -- so ⌊w·h/32⌋ records are enough
  pub candidates_few : 32 * k ≤ length m
  candidates_few = few k (omega arith)
