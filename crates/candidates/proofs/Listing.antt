-- The candidate list, one patch more at a time. Assumes nothing.
use Prim.Native.Nat.{ℕ, ◌+◌, ◌*◌, ◌/◌, ◌^◌, ◌≤◌, ◌<◌}
use mathlib.Core.Path.{◌≡◌, refl, sym, ap, subst, ◌∙◌}
use mathlib.Core.Bool.{false}
use mathlib.Core.Logic.{⊎_elim}
use mathlib.Core.List.{List}
use native.Mathlib.Omega.{arith}
use lib.Dec.{T}
use lib.ListN.{length, get_or, set, drop, length-set}
use lib.Seq.{get_or-set_same, get_or-set_other, drop-set-lt}
use lib.Ieee.{Float, nan}
use Rattle.base.proofs.Arith.{last_or}
use Rattle.base.proofs.Parts.{drop_later}
use Rattle.blobs.specs.Patches.{total, one, ink, patch_at}
use Rattle.blobs.specs.declared.Blob.{Blob}
use Rattle.blobs.proofs.Sums.{total_next}
use Rattle.candidates.specs.Ring.{passes, ring_score, center, size_of, ring_of, candidate_of, center_at, candidate_at, CandidateList}
use Rattle.candidates.specs.Bounds.{Listable, stored_record}
use Rattle.candidates.specs.declared.Ring.{Ring}
use Rattle.std.specs.Prelude.{Some, None}
use Rattle.candidates.proofs.Fours.{four_set, four_long, four_0, four_1, four_2, four_3, four_before, four_rest}
use Rattle.candidates.proofs.Held.{pixels_held}
use Rattle.candidates.proofs.Rules.{passes_area, ring_yes, ring_no}
use Rattle.candidates.proofs.Sums.{ink_few, total_grows}

module _ (m : List ℕ) (luma : List Float) (w h : ℕ) (t : ℕ → Blob) where
  module _ {n : ℕ} {c₀ : List Float} {p₀ : List ℕ} {c : List Float} {p : List ℕ} {k : ℕ} (H : CandidateList m luma w h t n c₀ p₀ c p k) where
    -- a patch that does not pass
    list_passed_over : passes m luma w h (t n) ≡ false → CandidateList m luma w h t (n + 1) c₀ p₀ c p k
    list_passed_over e =
        record {
          c_long = H.c_long;
          p_long = H.p_long;
          listed = λ i l. let a = H.listed i l in omega arith;
          passing = H.passing;
          ordered = H.ordered;
          every = λ j l x. ⊎_elim
              (λ d. absurd (subst T (ap (λ z. passes m luma w h (t z)) d ∙ e) x))
              (λ d. H.every j d x)
              (last_or j n (omega arith));
          records = H.records;
          c_rest = H.c_rest;
          p_rest = H.p_rest;
        }

    module _ (pass : T (passes m luma w h (t n))) (room : 4 * k + 4 ≤ length c) (place : k < length p) where
      abbrev p' : List ℕ
      p' = set p k n

      abbrev c' : List Float
      c' = four_set c (4 * k) (center (t n)).x (center (t n)).y (ring_score m luma w h (t n)) (size_of (t n)) nan room

      at_new : (i : ℕ) → i ≡ k → get_or p' i 0 ≡ n
      at_new i e = ap (λ z. get_or p' z 0) e ∙ get_or-set_same p k n 0 place

      at_old : (i : ℕ) → i < k → get_or p' i 0 ≡ get_or p i 0
      at_old i l = get_or-set_other p k i n 0 (λ e. omega arith)

      record_new : candidate_at c' p' k ≡ candidate_of m luma w h n (t n)
      unfolding candidate_at center_at candidate_of
      record_new =
          let i = 4 * k in
          let x = (center (t n)).x in
          let y = (center (t n)).y in
          let s = ring_score m luma w h (t n) in
          let z = size_of (t n) in
          let e0 = four_0 c i x y s z nan room in
          let e1 = four_1 c i x y s z nan room in
          let e2 = four_2 c i x y s z nan room in
          let e3 = four_3 c i x y s z nan room in
          let e4 = at_new k refl in
          λ q. record { center = record { x = e0 q; y = e1 q }; score = e2 q; size = e3 q; blob_index = e4 q }

      record_old : (i : ℕ) → i < k → candidate_at c' p' i ≡ candidate_at c p i
      unfolding candidate_at center_at
      record_old i l =
          let x = (center (t n)).x in
          let y = (center (t n)).y in
          let s = ring_score m luma w h (t n) in
          let z = size_of (t n) in
          let e0 = four_before c (4 * k) x y s z nan room (4 * i) (omega arith) in
          let e1 = four_before c (4 * k) x y s z nan room (4 * i + 1) (omega arith) in
          let e2 = four_before c (4 * k) x y s z nan room (4 * i + 2) (omega arith) in
          let e3 = four_before c (4 * k) x y s z nan room (4 * i + 3) (omega arith) in
          let e4 = at_old i l in
          λ q. record { center = record { x = e0 q; y = e1 q }; score = e2 q; size = e3 q; blob_index = e4 q }

      -- a patch that passes
      list_added : CandidateList m luma w h t (n + 1) c₀ p₀ c' p' (k + 1)
      list_added =
          record {
            c_long = four_long c (4 * k) (center (t n)).x (center (t n)).y (ring_score m luma w h (t n)) (size_of (t n)) nan room ∙ H.c_long;
            p_long = length-set p k n ∙ H.p_long;
            listed = λ i l. ⊎_elim
                (λ e. subst (λ z. z < n + 1) (sym (at_new i e)) (omega arith))
                (λ e. subst (λ z. z < n + 1) (sym (at_old i e)) (let a = H.listed i e in omega arith))
                (last_or i k (omega arith));
            passing = λ i l. ⊎_elim
                (λ e. subst (λ z. T (passes m luma w h (t z))) (sym (at_new i e)) pass)
                (λ e. subst (λ z. T (passes m luma w h (t z))) (sym (at_old i e)) (H.passing i e))
                (last_or i k (omega arith));
            ordered = λ i j l r. ⊎_elim
                (λ e. subst (λ z. z < get_or p' j 0) (sym (at_old i (omega arith))) (subst (λ z. get_or p i 0 < z) (sym (at_new j e)) (H.listed i (omega arith))))
                (λ e. subst (λ z. z < get_or p' j 0) (sym (at_old i (omega arith))) (subst (λ z. get_or p i 0 < z) (sym (at_old j e)) (H.ordered i j l e)))
                (last_or j k (omega arith));
            every = λ j l x. ⊎_elim
                (λ e. (k, omega arith, at_new k refl ∙ sym e))
                (λ e. let a = H.every j e x in (a.0, let b = a.1 in omega arith, at_old a.0 a.1 ∙ a.2))
                (last_or j n (omega arith));
            records = λ i l. ⊎_elim
                (λ e. subst (λ z. candidate_at c' p' z ≡ candidate_of m luma w h (get_or p' z 0) (t (get_or p' z 0))) (sym e)
                (record_new ∙ ap (λ z. candidate_of m luma w h z (t z)) (sym (at_new k refl))))
                (λ e. record_old i e ∙ H.records i e ∙ ap (λ z. candidate_of m luma w h z (t z)) (sym (at_old i e)))
                (last_or i k (omega arith));
            c_rest =
                let e : 4 * k + 4 ≡ 4 * (k + 1) = omega arith in
                subst (λ z. drop z c' ≡ drop z c₀) e
                (four_rest c (4 * k) (center (t n)).x (center (t n)).y (ring_score m luma w h (t n)) (size_of (t n)) nan room
                ∙ drop_later (4 * k) (4 * k + 4) c c₀ (omega arith) H.c_rest);
            p_rest = drop-set-lt (k + 1) p k n (omega arith) ∙ drop_later k (k + 1) p p₀ (omega arith) H.p_rest;
          }

  -- ---- a turn of the loop: with a candidate, or with none

  module _ {n : ℕ} {c₀ : List Float} {p₀ : List ℕ} {c : List Float} {p : List ℕ} {k : ℕ} (H : CandidateList m luma w h t n c₀ p₀ c p k) where
    pub list_with : (ring : Ring) (d : List Float) (q : List ℕ) → Some ring ≡ ring_of m luma w h (t n) → 4 * k + 4 ≤ length c → k < length p
        → d ≡ stored_record ring k c → q ≡ set p k n → CandidateList m luma w h t (n + 1) c₀ p₀ d q (k + 1)
    unfolding stored_record
    list_with ring d q e room place ec ep =
        let r = ring_yes m luma w h (t n) ring e in
        subst (λ z. CandidateList m luma w h t (n + 1) c₀ p₀ d z (k + 1)) (sym ep)
        (subst (λ z. CandidateList m luma w h t (n + 1) c₀ p₀ z (set p k n) (k + 1)) (sym (ec ∙ ap (λ z. stored_record z k c) r.1))
        (list_added H (subst T (sym r.0) tt) room place))

    pub list_without : None ≡ ring_of m luma w h (t n) → CandidateList m luma w h t (n + 1) c₀ p₀ c p k
    list_without e = list_passed_over H (ring_no m luma w h (t n) e)

  -- ---- at most ⌊w·h/32⌋ candidates: each has an area of 32 or more

  abbrev pub areas : ℕ → ℕ
  areas n = total (λ j. (t j).area) one n

  pub count_with : (n k : ℕ) (ring : Ring) → Some ring ≡ ring_of m luma w h (t n) → 32 * k ≤ areas n → 32 * (k + 1) ≤ areas (n + 1)
  count_with n k ring e a =
      let s : areas (n + 1) ≡ areas n + (t n).area = total_next (λ j. (t j).area) n in
      let o : 32 ≤ (t n).area = passes_area m luma w h (t n) (subst T (sym (ring_yes m luma w h (t n) ring e).0) tt) in
      omega arith

  pub count_without : (n k : ℕ) → 32 * k ≤ areas n → 32 * k ≤ areas (n + 1)
  count_without n k a = let s : areas (n + 1) ≡ areas n + (t n).area = total_next (λ j. (t j).area) n in omega arith

-- room for the candidates: of the areas, which add up to the dark pixels, each candidate takes 32 or more
module _ (w h : ℕ) (m : List ℕ) (luma : List Float) (l : List ℕ) (n : ℕ) (c₀ : List Float) (p₀ : List ℕ) (R : Listable w h m luma l n c₀ p₀) where
  areas_held : (j : ℕ) → j ≤ n → areas m luma w h (patch_at l) j ≤ w * h
  areas_held j a =
      let x : areas m luma w h (patch_at l) j ≤ areas m luma w h (patch_at l) n = total_grows (λ i. (patch_at l i).area) j n a in
      let y : areas m luma w h (patch_at l) n ≡ total one (ink m) (length m) = R.patches.areas in
      let z : total one (ink m) (length m) ≤ length m = ink_few m (length m) in
      let v : length m ≡ w * h = R.planes.mask_long in
      omega arith

  -- room for one record more
  pub record Room (j k : ℕ) (c : List Float) (p : List ℕ) : Type 0 where
    pub place_held : j < 2 ^ 32
    pub count_held : k < 2 ^ 32
    pub candidates_room : 4 * k + 4 ≤ length c
    pub places_room : k < length p

  pub room_for : (j k : ℕ) (c : List Float) (p : List ℕ) (ring : Ring) → j < n → 32 * k ≤ areas m luma w h (patch_at l) j → length c ≡ length c₀ → length p ≡ length p₀
      → Some ring ≡ ring_of m luma w h (patch_at l j) → Room j k c p
  room_for j k c p ring a b lc lp e =
      let big : w * h ≤ 16777216 = pixels_held w h R.planes.w_held R.planes.h_held in
      let few : 2 * n ≤ length m + 1 = R.patches.few in
      let long : length m ≡ w * h = R.planes.mask_long in
      let next : areas m luma w h (patch_at l) (j + 1) ≤ w * h = areas_held (j + 1) (omega arith) in
      let more : 32 * (k + 1) ≤ areas m luma w h (patch_at l) (j + 1) = count_with m luma w h (patch_at l) j k ring e b in
      let rc : 4 * (w * h / 32) ≤ length c₀ = R.candidates_long in
      let rp : w * h / 32 ≤ length p₀ = R.places_long in
      record { place_held = omega arith; count_held = omega arith; candidates_room = omega arith; places_room = omega arith }
