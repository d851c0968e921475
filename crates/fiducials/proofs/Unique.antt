-- The picture decides the corners: their patches, centres and places. Assumes nothing.
use Prim.Native.Nat.{ℕ}
use mathlib.Core.Path.{◌≡◌, refl, sym, ap, subst, ◌∙◌}
use mathlib.Core.List.{List}
use native.Mathlib.Nat.{le_antisymm}
use lib.ListN.{get_or}
use Rattle.base.proofs.Enumerations.{rising_once}
use Rattle.frame.specs.Image.{Image}
use Rattle.frame.specs.declared.FrameSpec.{FrameSpec}
use Rattle.frame.specs.declared.Quad.{Quad}
use Rattle.mask.specs.Mask.{mask_plane}
use Rattle.blobs.specs.Patches.{PatchOf, PatchList, patch_at}
use Rattle.blobs.specs.declared.Blob.{Blob}
use Rattle.blobs.proofs.Unique.{patch_unique, list_firsts}
use Rattle.candidates.specs.Ring.{center}
use Rattle.fiducials.specs.declared.pick.Corner.{Corner}
use Rattle.fiducials.specs.Corners.{Outermost}
use Rattle.fiducials.specs.declared.pick.Corner.TheVariants.{TL, TR, BR, BL}
use Rattle.fiducials.specs.Promises.{MarkedBy, Cornered, place_of, centers_at}
use Rattle.fiducials.specs.declared.Places.{Places}

-- the outermost patch toward a corner is one
pub outermost_unique : (img : Image) (f : FrameSpec) (c : Corner) (p q : ℕ) (t u : Blob) → Outermost img f c p t → Outermost img f c q u → p ≡ q
outermost_unique img f c p q t u a b =
    le_antisymm (a.first_of_equals q u b.passing (b.none_further p t a.passing)) (b.first_of_equals p t a.passing (a.none_further q u b.passing))

pub outermost_record : (img : Image) (f : FrameSpec) (c : Corner) (p q : ℕ) (t u : Blob) → Outermost img f c p t → Outermost img f c q u → t ≡ u
outermost_record img f c p q t u a b =
    patch_unique (mask_plane img f) img.w p t u a.passing.is (subst (λ z. PatchOf (mask_plane img f) img.w z u) (sym (outermost_unique img f c p q t u a b)) b.passing.is)

-- so the four centres are decided by the picture
pub marked_unique : (img : Image) (f : FrameSpec) (q r : Quad) → MarkedBy img f q → MarkedBy img f r → q ≡ r
marked_unique img f q r a b =
    let e : (c : Corner) → center (a.t c) ≡ center (b.t c) = λ c. ap center (outermost_record img f c (a.p c) (b.p c) (a.t c) (b.t c) (a.outermost c) (b.outermost c)) in
    a.centers ∙ (λ i. record { tl = e TL i; tr = e TR i; br = e BR i; bl = e BL i }) ∙ sym b.centers

-- the corners that an answer names are the picture's
pub corners_mark : (img : Image) (f : FrameSpec) (l firsts : List ℕ) (n : ℕ) (s : Places) → Cornered img f l firsts n s → MarkedBy img f (centers_at l s)
unfolding centers_at place_of
corners_mark img f l firsts n s h = record { p = λ c. get_or firsts (place_of s c) 0; t = λ c. patch_at l (place_of s c); outermost = h.outermost; centers = refl }

-- .. and so are their places, in any list of its patches
module _ (img : Image) (f : FrameSpec) {k k' l l' : List ℕ} {n o : ℕ} {F G : List ℕ} (a : PatchList (mask_plane img f) img.w k k' n F)
    (b : PatchList (mask_plane img f) img.w l l' o G) (s r : Places)
    (c : Cornered img f k' F n s) (d : Cornered img f l' G o r) where
  place_same : (e : Corner) → place_of s e ≡ place_of r e
  place_same e =
      let i = place_of s e in
      let j = place_of r e in
      let x : get_or F i 0 ≡ get_or G j 0 = outermost_unique img f e _ _ _ _ (c.outermost e) (d.outermost e) in
      let y = list_firsts (mask_plane img f) img.w a b i (c.listed e) in
      rising_once (λ q. get_or G q 0) o b.ordered i j y.0 (d.listed e) (sym y.1 ∙ x)

  pub places_unique : s ≡ r
  unfolding place_of
  places_unique =
      let e0 : s.tl ≡ r.tl = place_same TL in
      let e1 : s.tr ≡ r.tr = place_same TR in
      let e2 : s.br ≡ r.br = place_same BR in
      let e3 : s.bl ≡ r.bl = place_same BL in
      λ i. record { tl = e0 i; tr = e1 i; br = e2 i; bl = e3 i }
