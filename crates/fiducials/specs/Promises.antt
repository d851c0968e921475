-- What `detect_fiducials` does; refusals 7 to 9. Assumes nothing.
use Rattle.std.specs.Prelude.{ℕ, ◌≤◌, ◌<◌, ◌≡◌, not, ◌||◌, List, T, get_or}
use Rattle.frame.specs.Image.{Image}
use Rattle.frame.specs.Refusals.{Lowest, Check, Tested}
use Rattle.blobs.specs.Patches.{patch_at}
use Rattle.candidates.specs.Ring.{center}
use Rattle.candidates.specs.Areas.{Areas, look_tests}
use Rattle.candidates.specs.Promises.{Looked}
use Rattle.fiducials.specs.Answers.{no_quad, no_places}
use Rattle.fiducials.specs.Corners.{Passing, Outermost, one_way, too_small}
use Rattle.frame.specs.declared.FrameSpec.{FrameSpec}
use Rattle.frame.specs.declared.Quad.{Quad}
use Rattle.blobs.specs.declared.Blob.{Blob}
use Rattle.fiducials.specs.declared.Places.{Places}
use Rattle.fiducials.specs.declared.pick.Corner.{Corner}
use Rattle.fiducials.specs.declared.pick.Corner.TheVariants.{TL, TR, BR, BL}

-- ---- what the picture shows

-- four different patches pass the ring rule
pub record FourPass (img : Image) (f : FrameSpec) : Type 0 where
  pub p0 : ℕ
  pub p1 : ℕ
  pub p2 : ℕ
  pub p3 : ℕ
  pub t0 : Blob
  pub t1 : Blob
  pub t2 : Blob
  pub t3 : Blob
  pub pass0 : Passing img f p0 t0
  pub pass1 : Passing img f p1 t1
  pub pass2 : Passing img f p2 t2
  pub pass3 : Passing img f p3 t3
  pub differ01 : p0 < p1
  pub differ12 : p1 < p2
  pub differ23 : p2 < p3

-- one patch is outermost toward two corners
pub record Shared (img : Image) (f : FrameSpec) : Type 0 where
  pub p : ℕ
  pub t : Blob
  pub c : Corner
  pub d : Corner
  pub differ : c ≡ d → ⊥
  pub outermost_c : Outermost img f c p t
  pub outermost_d : Outermost img f d p t

-- q holds the centres of the patches that are outermost toward TL, TR, BR and BL
pub record MarkedBy (img : Image) (f : FrameSpec) (q : Quad) : Type 0 where
  pub p : Corner → ℕ
  pub t : Corner → Blob
  pub outermost : (c : Corner) → Outermost img f c (p c) (t c)
  pub centers : q ≡ record { tl = center (t TL); tr = center (t TR); br = center (t BR); bl = center (t BL) }

-- ---- conditions, each with its number

-- those of `detect_fiducials`: tests, and 7 to 9
pub data Undetected (img : Image) (f : FrameSpec) (tests : List Check) (n : ℕ) : Type 0 where
  tested : Tested n tests → Undetected img f tests n
  -- [2.7] 7: fewer than four candidates, that is, no four different patches pass the ring rule
  few : n ≡ 7 → (FourPass img f → ⊥) → Undetected img f tests n
  -- [2.8] 8: one candidate fills two corners
  shared : n ≡ 8 → Shared img f → Undetected img f tests n
  -- [2.9] 9: the corners do not turn one way, or their area is too small
  crooked : n ≡ 9 → (q : Quad) → MarkedBy img f q → T (not (one_way q) || too_small img.w img.h q)
      → Undetected img f tests n

-- the place in the patch list that an answer names for a corner
unfoldable pub place_of : Places → Corner → ℕ
place_of s TL = s.tl
place_of s TR = s.tr
place_of s BR = s.br
place_of s BL = s.bl

-- [0.5] those four patches' centres
unfoldable pub centers_at : List ℕ → Places → Quad
centers_at l s =
    record {
      tl = center (patch_at l s.tl);
      tr = center (patch_at l s.tr);
      br = center (patch_at l s.br);
      bl = center (patch_at l s.bl);
    }

-- ---- the corners that are named: of n patches with the first pixels firsts and the records l
pub record Cornered (img : Image) (f : FrameSpec) (l firsts : List ℕ) (n : ℕ) (s : Places) : Type 0 where
  -- [0.4] four different patches, one for each corner
  pub listed : (c : Corner) → place_of s c < n
  pub different : (c d : Corner) → place_of s c ≡ place_of s d → c ≡ d
  -- [0.4] each all the dark pixels joined edge to edge, each passing the ring rule; no other passing patch lies
  -- further out toward that corner, and of equals the first in raster order is named
  pub outermost : (c : Corner) → Outermost img f c (get_or firsts (place_of s c) 0) (patch_at l (place_of s c))

-- ---- what a detection leaves, where no test refuses it
pub record DetectionPastTests (img : Image) (f : FrameSpec) (a b : Areas) (number n k waited : ℕ) (s : Places)
    (q : Quad) : Type 0 where
  pub looked : Looked img f a b n k waited
  -- 7 to 9, or 0: the lowest number that applies, after any tests of which none holds
  pub lowest : (tests : List Check) → ((j : ℕ) → Tested j tests → ⊥) → Lowest (Undetected img f tests) number
  pub from_seven : 1 ≤ number → 7 ≤ number
  pub corners : number ≡ 0 → Cornered img f b.patches looked.firsts n s
  pub centers : number ≡ 0 → q ≡ centers_at b.patches s
  pub marked : number ≡ 0 → MarkedBy img f q
  -- what stands for centres and places where it is refused
  pub none : 1 ≤ number → (q ≡ no_quad) × (s ≡ no_places)

-- ---- `detect_fiducials`: its refusal's number, or 0 with the centres q of the four patches at the places s
pub record Detection (img : Image) (f : FrameSpec) (a b : Areas) (number n k waited : ℕ) (s : Places)
    (q : Quad) : Type 0 where
  pub refusal : Lowest (Undetected img f (look_tests img f a)) number
  -- [2.17] 1 to 6 touch no memory
  pub untouched : 1 ≤ number → number ≤ 6 → (b ≡ a) × (n ≡ 0) × (k ≡ 0) × (waited ≡ 0)
  pub refused : 7 ≤ number → Looked img f a b n k waited
  pub accepted : number ≡ 0 → Looked img f a b n k waited
  pub corners : (e : number ≡ 0) → Cornered img f b.patches (accepted e).firsts n s
  pub centers : number ≡ 0 → q ≡ centers_at b.patches s
  pub none : 1 ≤ number → (q ≡ no_quad) × (s ≡ no_places)
