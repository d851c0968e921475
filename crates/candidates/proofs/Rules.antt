-- The ring rule's parts. Assumes nothing.
use Prim.Native.Nat.{ℕ, ◌/◌, ◌≤◌, min}
use mathlib.Core.Path.{◌≡◌, refl, sym, ap, ◌∙◌}
use mathlib.Core.Bool.{Bool, true, false, cond, ◌&&◌}
use mathlib.Core.List.{List}
use lib.Dec.{T, leb, leb→le}
use lib.Ieee.{Float, le}
use lib.Ieee.Fits.{and_l}
use Rattle.base.proofs.Pick.{pick_yes, pick_no}
use Rattle.float.specs.Floats.{◌⊗◌, ◌⊘◌, f64, d64}
use Rattle.frame.specs.declared.Point.{Point}
use Rattle.base.proofs.Tests.{and_both}
use Rattle.blobs.specs.declared.Blob.{Blob}
use Rattle.candidates.specs.Ring.{passes, shaped, enough, ring_score, wide, high, center, size_of, ring_of}
use Rattle.candidates.specs.declared.Ring.{Ring}
use Rattle.std.specs.Prelude.{Some, None}

-- [8.1] area at least 32
pub shaped_area : (w h : ℕ) (t : Blob) → T (shaped w h t) → 32 ≤ t.area
unfolding shaped
shaped_area w h t k =
    let bw = f64 (wide t) in
    let bh = f64 (high t) in
    let sides-x = leb 10 (wide t) && leb (wide t) (min w h / 4) in
    let sides-y = leb 10 (high t) && leb (high t) (min w h / 4) in
    let aspect = le (d64 5 10) (bw ⊘ bh) && le (bw ⊘ bh) (f64 2) in
    let fill = le (d64 20 100) (f64 t.area ⊘ (bw ⊗ bh)) && le (f64 t.area ⊘ (bw ⊗ bh)) (d64 85 100) in
    leb→le 32 t.area
    (and_l (leb 32 t.area) sides-x
    (and_l (leb 32 t.area && sides-x) sides-y
    (and_l (leb 32 t.area && sides-x && sides-y) aspect
    (and_l (leb 32 t.area && sides-x && sides-y && aspect) fill k))))

module _ (m : List ℕ) (luma : List Float) (w h : ℕ) (t : Blob) where
  pub passes_area : T (passes m luma w h t) → 32 ≤ t.area
  unfolding passes
  passes_area k = shaped_area w h t (and_l (shaped w h t) (enough (ring_score m luma w h t)) k)

  -- the answers of `candidate_of`
  abbrev pub passed : Ring
  passed = record { center = center t; score = ring_score m luma w h t; size = size_of t }

  pub ring_passed : (p : Point) (s z : Float) → shaped w h t ≡ true → s ≡ ring_score m luma w h t → enough s ≡ true → p ≡ center t → z
      ≡ size_of t → Some (record { center = p; score = s; size = z }) ≡ ring_of m luma w h t
  unfolding ring_of passes
  ring_passed p s z a b e x y =
      (λ i. Some (record { center = x i; score = b i; size = y i }))
      ∙ pick_yes _ _ _ (and_both (shaped w h t) (enough (ring_score m luma w h t)) a (ap enough (sym b) ∙ e))

  pub ring_unshaped : shaped w h t ≡ false → None ≡ ring_of m luma w h t
  unfolding ring_of passes
  ring_unshaped a = pick_no _ _ _ (ap (λ z. z && enough (ring_score m luma w h t)) a)

  pub ring_low : (s : Float) → shaped w h t ≡ true → s ≡ ring_score m luma w h t → enough s ≡ false → None ≡ ring_of m luma w h t
  unfolding ring_of passes
  ring_low s a b e = pick_no _ _ _ (ap (λ z. z && enough (ring_score m luma w h t)) a ∙ ap enough (sym b) ∙ e)

  -- .. and what they tell
  pub ring_yes : (r : Ring) → Some r ≡ ring_of m luma w h t → (passes m luma w h t ≡ true) × (r ≡ passed)
  unfolding ring_of
  ring_yes r e = go (passes m luma w h t) e
    where
      go : (b : Bool) → Some r ≡ cond b (Some passed) None → (b ≡ true) × (r ≡ passed)
      go true d = (refl, cc)
      go false d = absurd (cc)

  pub ring_no : None ≡ ring_of m luma w h t → passes m luma w h t ≡ false
  unfolding ring_of
  ring_no e = go (passes m luma w h t) e
    where
      go : (b : Bool) → None ≡ cond b (Some passed) None → b ≡ false
      go true d = absurd (cc)
      go false d = refl
