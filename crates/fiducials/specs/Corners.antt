-- Corners (requirements, 9). Assumes nothing.
use Rattle.std.specs.Prelude.{ℕ, ◌*◌, ◌≤◌, Bool, cond, not, ◌&&◌, ◌||◌, List, [], ◌∷◌, T, eqb, ltb, Float}
use Rattle.std.specs.Float.Ieee.{lt, eq}
use Rattle.base.specs.Loops.{turns}
use Rattle.float.specs.Floats.{◌⊕◌, ◌⊖◌, ◌⊗◌, f64, d64, abs_of, signum_of}
use Rattle.frame.specs.Image.{Image}
use Rattle.frame.specs.Refusals.{Check, check}
use Rattle.sampling.specs.Luma.{luma_plane}
use Rattle.mask.specs.Mask.{mask_plane}
use Rattle.blobs.specs.Patches.{PatchOf, First}
use Rattle.candidates.specs.Ring.{passes, center}
use Rattle.frame.specs.declared.FrameSpec.{FrameSpec}
use Rattle.frame.specs.declared.Point.{Point}
use Rattle.frame.specs.declared.Quad.{Quad}
use Rattle.frame.specs.declared.refusals.Refusal.TheVariants.{FewCandidates, SharedCandidate, Crooked}
use Rattle.blobs.specs.declared.Blob.{Blob}
use Rattle.fiducials.specs.declared.pick.Corner.{Corner}
use Rattle.fiducials.specs.declared.pick.Corner.TheVariants.{TL, TR, BR, BL}

-- [9.1] TL has the least x+y, TR the greatest x−y, BR the greatest x+y, BL the least x−y, as f64 keys
unfoldable pub key : Corner → Point → Float
key TL p = p.x ⊕ p.y
key TR p = p.x ⊖ p.y
key BR p = p.x ⊕ p.y
key BL p = p.x ⊖ p.y

-- [9.2] one patch lies further out than another toward TL or BL when its key there is less, toward TR or BR when it is
-- greater
unfoldable pub further : Corner → Point → Point → Bool
further TL p q = lt (key TL p) (key TL q)
further TR p q = lt (key TR q) (key TR p)
further BR p q = lt (key BR q) (key BR p)
further BL p q = lt (key BL p) (key BL q)

-- [9.1] `pick`, over n candidates with the centres p 0, p 1, ..: ties go to the earlier candidate
abbrev pub pick_step : Corner → (ℕ → Point) → ℕ → ℕ → ℕ
pick_step c p i best = cond (further c (p i) (p best)) i best

unfoldable pub pick : Corner → (ℕ → Point) → ℕ → ℕ
pick c p n = turns n (pick_step c p) 0

-- the patch whose first pixel is p has the record t and passes the ring rule
pub record Passing (img : Image) (f : FrameSpec) (p : ℕ) (t : Blob) : Type 0 where
  pub first : First (mask_plane img f) img.w p
  pub is : PatchOf (mask_plane img f) img.w p t
  pub ring : T (passes (mask_plane img f) (luma_plane img) img.w img.h t)

-- [0.4] the patch named for a corner: it passes the ring rule, no other passing patch lies further out toward that
-- corner, and of equals the first in raster order is named. Two are equals when neither lies further out
pub record Outermost (img : Image) (f : FrameSpec) (c : Corner) (p : ℕ) (t : Blob) : Type 0 where
  pub passing : Passing img f p t
  pub none_further : (q : ℕ) (u : Blob) → Passing img f q u → T (not (further c (center u) (center t)))
  pub first_of_equals : (q : ℕ) (u : Blob) → Passing img f q u → T (not (further c (center t) (center u))) → p ≤ q

-- `cross` of three points, and its sign
unfoldable pub cross : Point → Point → Point → Float
cross a b c = (b.x ⊖ a.x) ⊗ (c.y ⊖ a.y) ⊖ (b.y ⊖ a.y) ⊗ (c.x ⊖ a.x)

abbrev pub orientation : Point → Point → Point → Float
orientation a b c = signum_of (cross a b c)

-- [9.3] the four `cross` signs must agree
unfoldable pub one_way : Quad → Bool
one_way q =
    let s = orientation q.tl q.tr q.br in
    eq s s && eq (orientation q.tr q.br q.bl) s && eq (orientation q.br q.bl q.tl) s
    && eq (orientation q.bl q.tl q.tr) s

-- half the absolute sum of the four terms, from zero
abbrev pub term : Point → Point → Float
term a b = a.x ⊗ b.y ⊖ b.x ⊗ a.y

unfoldable pub quad_area : Quad → Float
quad_area q =
    d64 5 10 ⊗ abs_of (f64 0 ⊕ term q.tl q.tr ⊕ term q.tr q.br ⊕ term q.br q.bl ⊕ term q.bl
    q.tl)

-- [9.4] an area below 0.04·w·h is refused
unfoldable pub too_small : ℕ → ℕ → Quad → Bool
too_small w h q = lt (quad_area q) (d64 4 100 ⊗ f64 (w * h))

-- ---- what `detect_fiducials` works out from k candidates with the centres p 0, p 1, ..

-- the centres of the picks
unfoldable pub picked_quad : (ℕ → Point) → ℕ → Quad
picked_quad p k = record { tl = p (pick TL p k); tr = p (pick TR p k); br = p (pick BR p k); bl = p (pick BL p k) }

-- two of the picks are one candidate
unfoldable pub shared_pick : (ℕ → Point) → ℕ → Bool
shared_pick p k =
    eqb (pick TL p k) (pick TR p k) || eqb (pick TL p k) (pick BR p k) || eqb (pick TL p k) (pick BL p k)
    || eqb (pick TR p k) (pick BR p k) || eqb (pick TR p k) (pick BL p k) || eqb (pick BR p k) (pick BL p k)

-- the tests of the candidates: 7 to 9
unfoldable pub corner_tests : ℕ → ℕ → (ℕ → Point) → ℕ → List Check
corner_tests w h p k =
    check FewCandidates (ltb k 4)
    ∷ check SharedCandidate (shared_pick p k)
    ∷ check Crooked (not (one_way (picked_quad p k)) || too_small w h (picked_quad p k))
    ∷ []
