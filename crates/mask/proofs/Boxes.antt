-- The mean of a box, read from the integral. Assumes nothing.
use mathlib.Core.Path.{◌≡◌, ◌∙◌}
use mathlib.Core.List.{List}
use Prim.Native.Nat.{ℕ, ◌+◌, ◌-◌, ◌*◌, ◌≤◌, ◌<◌}
use native.Mathlib.Omega.{arith}
use lib.Ieee.{Float}
use Rattle.base.proofs.Plane.{by_row_lem}
use Rattle.base.proofs.Arith.{row_in}
use Rattle.float.specs.Floats.{◌⊕◌, ◌⊖◌, ◌⊘◌, f64, narrowed}
use Rattle.mask.specs.Mask.{integral_at, box_mean, lower, upper}
use Rattle.mask.specs.Planes.{entry_at, Integral}

module _ (luma a : List Float) (w h : ℕ) (holds : Integral luma w h a) where
  entry_is : (x y : ℕ) → x ≤ w → y ≤ h → entry_at a w x y ≡ integral_at luma w x y
  entry_is x y p q =
      holds (y * (w + 1) + x) (row_in x y (w + 1) (h + 1) (omega arith) (omega arith))
      ∙ by_row_lem (integral_at luma w) (w + 1) x y (omega arith)

  pub mean_is : (r x y : ℕ) → x < w → y < h → box_mean (entry_at a w) w h r x y ≡ box_mean (integral_at luma w) w h r x y
  unfolding box_mean
  mean_is r x y p q =
      let e1 = entry_is (upper r w x) (upper r h y) (omega arith) (omega arith) in
      let e2 = entry_is (upper r w x) (lower r y) (omega arith) (omega arith) in
      let e3 = entry_is (lower r x) (upper r h y) (omega arith) (omega arith) in
      let e4 = entry_is (lower r x) (lower r y) (omega arith) (omega arith) in
      cc

-- the mean of a box whose ends are x0, x1, y0 and y1
pub box_is : (at : ℕ → ℕ → Float) (w h r x y x0 x1 y0 y1 : ℕ) (n m : Float)
    → x0 ≡ lower r x
    → x1 ≡ upper r w x
    → y0 ≡ lower r y
    → y1 ≡ upper r h y
    → n ≡ f64 ((x1 - x0) * (y1 - y0))
    → m ≡ narrowed ((at x1 y1 ⊖ at x1 y0 ⊖ at x0 y1 ⊕ at x0 y0) ⊘ n)
    → m ≡ box_mean at w h r x y
unfolding box_mean
box_is at w h r x y x0 x1 y0 y1 n m a b c d e f = cc
