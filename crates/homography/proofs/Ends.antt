-- The ends of `apply`, `inverse`, `from_points` and `rms_error`, from what their callees give. Assumes nothing.
use mathlib.Core.Path.{◌≡◌, refl, sym, ap, ◌∙◌}
use mathlib.Core.Bool.{Bool, true, false, cond}
use mathlib.Core.List.{List, [], ◌∷◌, ◌++◌}
use Prim.Native.Nat.{ℕ}
use native.Mathlib.Omega.{arith}
use lib.Ieee.{Float, lt}
use Rattle.std.specs.Prelude.{Some, None}
use Rattle.base.proofs.Pick.{pick_yes, pick_no}
use Rattle.float.specs.Floats.{◌⊕◌, ◌⊘◌, f64, tiny, abs_of}
use Rattle.float.specs.Root.{sqrt_of}
use Rattle.frame.specs.declared.Point.{Point}
use Rattle.frame.specs.declared.Quad.{Quad}
use Rattle.frame.specs.declared.refusals.Refusal.TheVariants.{NoHomography, Singular}
use Rattle.homography.specs.declared.Homography.{Homography}
use Rattle.homography.specs.declared.Solved.{Solved}
use Rattle.homography.specs.Arithmetic.{rounded}
use Rattle.homography.specs.Elimination.{solvable, solution}
use Rattle.homography.specs.Equations.{equations, homography_over, found, refused, has_homography, homography, from_points}
use Rattle.homography.specs.Inner.{unknowns}
use Rattle.homography.specs.Homography.{row_times, divisor, apply, product_at, adjugate, determinant, singular, quotients, inverse, apart, rms_error}

pub applied :
    (h : Homography) (p : Point) (x y z w : Float)
    → x ≡ row_times h 0 p → y ≡ row_times h 1 p → z ≡ row_times h 2 p → w ≡ divisor z
    → record { x = x ⊘ w; y = y ⊘ w } ≡ apply h p
unfolding apply
applied h p x y z w e f g i = cc

-- the answer with the entries m
abbrev pub matrix : List Float → Solved
matrix m = found (record { m = m })

-- c and d are what `cofactors` gives and the determinant along the first row
module _ (h : Homography) (c : List Float) (d : Float) (e : c ≡ adjugate h.m) (f : d ≡ product_at h.m c 0 0) where
  along : d ≡ determinant h.m
  unfolding determinant
  along = f ∙ ap (λ b. product_at h.m b 0 0) e

  pub inverse_refused : lt (abs_of d) tiny ≡ true → refused Singular ≡ inverse h
  unfolding inverse singular
  inverse_refused t = pick_yes _ _ _ (ap (λ x. lt (abs_of x) tiny) (sym along) ∙ t)

  pub inverse_found : (q : List Float) → lt (abs_of d) tiny ≡ false → q ≡ quotients c d → found (record { m = q }) ≡ inverse h
  unfolding inverse singular
  inverse_found q t g =
      ap matrix (g ∙ ap (quotients c) along ∙ ap (λ b. quotients b (determinant h.m)) e)
      ∙ pick_no _ _ _ (ap (λ x. lt (abs_of x) tiny) (sym along) ∙ t)

-- what `solve8` gives for the equations
module _ (src dst : Quad) where
  pub points_found : (t : List Float) → Some t ≡ unknowns (equations src dst) → matrix (t ++ (f64 1 ∷ [])) ≡ from_points src dst
  unfolding from_points has_homography homography homography_over equations unknowns
  points_found t = go (solvable rounded (equations src dst))
    where
      go : (b : Bool) → Some t ≡ cond b (Some (solution rounded (equations src dst))) None
          → matrix (t ++ (f64 1 ∷ [])) ≡ cond b (matrix (solution rounded (equations src dst) ++ (f64 1 ∷ []))) (refused NoHomography)
      go true e = let d : t ≡ solution rounded (equations src dst) = cc in ap (λ z. matrix (z ++ (f64 1 ∷ []))) d
      go false e = let z : ◌≡◌ {A = ℕ} 0 1 = cc in absurd (omega arith)

  pub points_refused : None ≡ unknowns (equations src dst) → refused NoHomography ≡ from_points src dst
  unfolding from_points has_homography unknowns
  points_refused = go (solvable rounded (equations src dst))
    where
      go : (b : Bool) → None ≡ cond b (Some (solution rounded (equations src dst))) None → refused NoHomography ≡ cond b (found (homography src dst)) (refused NoHomography)
      go true e = let z : ◌≡◌ {A = ℕ} 0 1 = cc in absurd (omega arith)
      go false e = refl

pub rms_is :
    (a b : Quad) (s t u v r : Float)
    → s ≡ apart a.tl b.tl → t ≡ apart a.tr b.tr → u ≡ apart a.br b.br → v ≡ apart a.bl b.bl
    → r ≡ sqrt_of ((f64 0 ⊕ s ⊕ t ⊕ u ⊕ v) ⊘ f64 4)
    → r ≡ rms_error a b
unfolding rms_error
rms_is a b s t u v r d e f g h = cc
