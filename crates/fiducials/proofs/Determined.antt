-- A detection's answer is decided by the capture and the frame: [14.3] no answer depends on what the
-- work areas held before. Assumes nothing.
use Prim.Native.Nat.{ℕ, ◌≤◌}
use mathlib.Core.Path.{◌≡◌, sym, ap, subst, ◌∙◌}
use mathlib.Core.Bool.{false}
use mathlib.Core.Logic.{⊎_elim}
use mathlib.Core.List.{List}
use native.Mathlib.Nat.{eq-zero-or-pos}
use native.Mathlib.Omega.{arith}
use Rattle.frame.specs.Image.{Image}
use Rattle.std.specs.Prelude.{Result, Ok, Err}
use Rattle.frame.specs.Refusals.{number_of, Check, Lowest}
use Rattle.frame.specs.declared.refusals.Refusal.{Refusal}
use Rattle.frame.proofs.Given.{positive, number_injective}
use Rattle.frame.specs.declared.FrameSpec.{FrameSpec}
use Rattle.frame.specs.declared.Quad.{Quad}
use Rattle.frame.proofs.Lowest.{Rising, above, lowest_unique}
use Rattle.candidates.specs.Areas.{Areas, area_short, look_tests}
use Rattle.candidates.specs.Promises.{Looked}
use Rattle.candidates.proofs.Determined as look
use Rattle.candidates.proofs.Refusing.{rising}
use Rattle.fiducials.specs.Promises.{Undetected, Detection}
use Rattle.fiducials.specs.Promises.Undetected.{tested, few, shared, crooked}
use Rattle.fiducials.specs.Answers.{quad_of, places_of}
use Rattle.fiducials.specs.declared.Corners.{Corners}
use Rattle.fiducials.specs.declared.Places.{Places}
use Rattle.fiducials.proofs.Unique.{corners_mark, marked_unique, places_unique}

-- its conditions have the numbers 1 to 9
pub undetected_positive : (img : Image) (f : FrameSpec) (l : List Check) → Rising 0 l → (n : ℕ) → Undetected img f l n → 1 ≤ n
undetected_positive img f l r n (tested t) = above 0 n l r t
undetected_positive img f l r n (few e x) = omega arith
undetected_positive img f l r n (shared e x) = omega arith
undetected_positive img f l r n (crooked e q x y) = omega arith

-- two calls with areas that pass or fail the same tests
module _ (img : Image) (f : FrameSpec) (a b a' b' : Areas) (number n k waited number' n' k' waited' : ℕ) (s s' : Places) (q q' : Quad)
    (h : Detection img f a b number n k waited s q) (h' : Detection img f a' b' number' n' k' waited' s' q') (e : look_tests img f a ≡ look_tests img f a') where
  pub same_number : number ≡ number'
  same_number =
      lowest_unique (Undetected img f (look_tests img f a)) (undetected_positive img f (look_tests img f a) (rising img f (area_short img a) false)) number number'
      h.refusal (subst (λ t. Lowest (Undetected img f t) number') (sym e) h'.refusal)

  module _ (yes : number ≡ 0) where
    also : number' ≡ 0
    also = sym same_number ∙ yes

    found_places : s ≡ s'
    found_places = places_unique img f (h.accepted yes).patches (h'.accepted also).patches s s' (h.corners yes) (h'.corners also)

    found_quad : q ≡ q'
    found_quad =
        h.centers yes
        ∙ marked_unique img f _ _ (corners_mark img f b.patches (h.accepted yes).firsts n s (h.corners yes)) (corners_mark img f
        b'.patches (h'.accepted also).firsts n' s' (h'.corners also))
        ∙ sym (h'.centers also)

  pub same_places : s ≡ s'
  same_places = ⊎_elim found_places (λ o. (h.none o).1 ∙ sym (h'.none (subst (λ z. 1 ≤ z) same_number o)).1) (eq-zero-or-pos number)

  pub same_quad : q ≡ q'
  same_quad = ⊎_elim found_quad (λ o. (h.none o).0 ∙ sym (h'.none (subst (λ z. 1 ≤ z) same_number o)).0) (eq-zero-or-pos number)

  -- .. and the numbers of patches, candidates and waiting pixels, where the picture is looked at
  pub same_counts : Looked img f a b n k waited → Looked img f a' b' n' k' waited' → (n ≡ n') × (k ≡ k') × (waited ≡ waited')
  same_counts l l' = (
    look.same_patches img f a b a' b' n k waited n' k' waited' l l',
    look.same_candidates img f a b a' b' n k waited n' k' waited' l l',
    look.same_waited img f a b a' b' n k waited n' k' waited' l l',
  )

-- an answer is told by its number, its places and its centres, which are so decided
pub same_answer : (r r' : Result Corners Refusal) → number_of r ≡ number_of r' → places_of r ≡ places_of r' → quad_of r ≡ quad_of r' → r ≡ r'
same_answer (Ok c) (Ok d) e s q = λ i. Ok (record { quad = q i; places = s i })
same_answer (Ok c) (Err d) e s q = let some = positive d in absurd (omega arith)
same_answer (Err c) (Ok d) e s q = let some = positive c in absurd (omega arith)
same_answer (Err c) (Err d) e s q = ap Err (number_injective c d e)
