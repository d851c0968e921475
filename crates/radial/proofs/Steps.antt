-- One of Newton's steps, by whether it is left early. Assumes nothing.
use mathlib.Core.Path.{◌≡◌, refl, sym, ap, ◌∙◌}
use mathlib.Core.Bool.{true, false}
use Prim.Native.Nat.{ℕ, suc}
use lib.Ieee.{Float, lt, eq}
use Rattle.base.proofs.Pick.{pick_yes, pick_no}
use Rattle.float.specs.Floats.{◌⊕◌, ◌⊖◌, ◌⊗◌, ◌⊘◌, f64, tiny, abs_of}
use Rattle.float.specs.Root.{sqrt_of}
use Rattle.frame.specs.declared.Point.{Point}
use Rattle.radial.specs.declared.Radial.{Radial}
use Rattle.radial.specs.Lens.{newton, undistort}

module _ (n : ℕ) (k rd u : Float) where
  abbrev slope : Float
  slope = f64 1 ⊕ f64 3 ⊗ k ⊗ u ⊗ u

  pub newton_done : newton 0 k rd u ≡ u
  unfolding newton
  newton_done = refl

  pub newton_stop : lt (abs_of slope) tiny ≡ true → newton (suc n) k rd u ≡ u
  unfolding newton
  newton_stop e = sym (pick_yes _ _ _ e)

  pub newton_go : lt (abs_of slope) tiny ≡ false → newton (suc n) k rd u ≡ newton n k rd (u ⊖ (u ⊕ k ⊗ u ⊗ u ⊗ u ⊖ rd) ⊘ slope)
  unfolding newton
  newton_go e = sym (pick_no _ _ _ e)

-- `undistort`, by its tests: s is the distance from the centre in pixels, u the distance that Newton's steps give
module _ (l : Radial) (p : Point) (s : Float) (d : s ≡ sqrt_of ((p.x ⊖ l.cx) ⊗ (p.x ⊖ l.cx) ⊕ (p.y ⊖ l.cy) ⊗ (p.y ⊖ l.cy))) (k : eq l.k (f64 0) ≡ false) where
  pub undistort_near : lt (s ⊘ l.norm) tiny ≡ true → p ≡ undistort l p
  unfolding undistort
  undistort_near e = pick_yes _ _ _ (ap (λ z. lt (z ⊘ l.norm) tiny) (sym d) ∙ e) ∙ pick_no _ _ _ k

  abbrev moved : Float → Point
  moved u =
      let f = f64 1 ⊕ l.k ⊗ u ⊗ u in
      record { x = l.cx ⊕ (p.x ⊖ l.cx) ⊘ f; y = l.cy ⊕ (p.y ⊖ l.cy) ⊘ f }

  pub undistort_far : (u : Float) → lt (s ⊘ l.norm) tiny ≡ false → u ≡ newton 6 l.k (s ⊘ l.norm) (s ⊘ l.norm) → moved u ≡ undistort l p
  unfolding undistort
  undistort_far u e n =
      ap moved (n ∙ ap (λ z. newton 6 l.k (z ⊘ l.norm) (z ⊘ l.norm)) d)
      ∙ pick_no _ _ _ (ap (λ z. lt (z ⊘ l.norm) tiny) (sym d) ∙ e)
      ∙ pick_no _ _ _ k
