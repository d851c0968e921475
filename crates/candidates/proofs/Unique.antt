-- The planes decide the candidates: among patches with the same records there is one list of them. Assumes nothing.
use Prim.Native.Nat.{ℕ, ◌<◌}
use mathlib.Core.Path.{◌≡◌, sym, ap, subst, ◌∙◌}
use mathlib.Core.List.{List}
use lib.Dec.{T}
use lib.Ieee.{Float}
use lib.ListN.{get_or}
use Rattle.base.proofs.Enumerations.{Within, within_same, within_number}
use Rattle.blobs.specs.declared.Blob.{Blob}
use Rattle.candidates.specs.Ring.{passes, candidate_at, candidate_of, CandidateList}

module _ (m : List ℕ) (luma : List Float) (w h : ℕ) {t u : ℕ → Blob} {n : ℕ} where
  places_within : {c c' d d' : List Float} {p p' q q' : List ℕ} {k o : ℕ} → CandidateList m luma w h t n c p c' p' k → CandidateList m luma w h u n d q d' q' o
      → ((j : ℕ) → j < n → t j ≡ u j) → Within (λ i. get_or p' i 0) (λ i. get_or q' i 0) k o
  places_within {p' = p'} a b same =
      record {
        rises = a.ordered;
        found = λ i l. b.every (get_or p' i 0) (a.listed i l) (subst (λ z. T (passes m luma w h z)) (same (get_or p' i 0) (a.listed i l)) (a.passing i l));
      }

  module _ {c c' d d' : List Float} {p p' q q' : List ℕ} {k o : ℕ} (a : CandidateList m luma w h t n c p c' p' k) (b : CandidateList m luma
      w h u n d q d' q' o) (same : (j : ℕ) → j < n → t j ≡ u j) where
    other_way : Within (λ i. get_or q' i 0) (λ i. get_or p' i 0) o k
    other_way =
        record {
          rises = b.ordered;
          found = λ i l. a.every (get_or q' i 0) (b.listed i l) (subst (λ z. T (passes m luma w h z)) (sym (same (get_or q' i 0) (b.listed i l))) (b.passing i l));
        }

    pub candidates_number : k ≡ o
    candidates_number = within_number (places_within a b same) other_way

    pub candidates_places : (i : ℕ) → i < k → (i < o) × (get_or p' i 0 ≡ get_or q' i 0)
    candidates_places i l = within_same (places_within a b same) other_way i l

    pub candidates_records : (i : ℕ) → i < k → candidate_at c' p' i ≡ candidate_at d' q' i
    candidates_records i l =
        let e = candidates_places i l in
        a.records i l
        ∙ ap (candidate_of m luma w h (get_or p' i 0)) (same (get_or p' i 0) (a.listed i l))
        ∙ ap (λ z. candidate_of m luma w h z (u z)) e.1
        ∙ sym (b.records i e.0)
