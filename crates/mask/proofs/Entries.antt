-- Places of the integral, and its entries. Assumes nothing.
use mathlib.Core.Path.{◌≡◌, sym, ap, ◌∙◌}
use mathlib.Core.List.{List}
use Prim.Native.Nat.{ℕ, ◌+◌, ◌*◌, ◌≤◌, ◌<◌}
use native.Mathlib.Omega.{arith}
use native.Mathlib.Numerals.{add-one}
use lib.Ieee.{Float, nan}
use lib.ListN.{get_or, length}
use Rattle.base.specs.Loops.{filled}
use Rattle.base.proofs.Plane.{filled_at, length_filled, by_row_lem}
use Rattle.base.proofs.Arith.{row_in, row_end}
use Rattle.float.specs.Floats.{◌⊕◌, f64}
use Rattle.mask.specs.Mask.{row_sum, integral_at, integral_entry}

-- pixel (x, y), the entry at its upper right corner and the one at its lower right corner are within their planes
pub record Place (x y w h : ℕ) : Type 0 where
  pub pixel : y * w + x < w * h
  pub over : y * (w + 1) + (x + 1) < (w + 1) * (h + 1)
  pub here : (y + 1) * (w + 1) + (x + 1) < (w + 1) * (h + 1)
  pub next : y * (w + 1) + (w + 1) ≡ (y + 1) * (w + 1)

pub place : (x y w h : ℕ) → x < w → y < h → Place x y w h
place x y w h hx hy =
    record {
      pixel = row_in x y w h hx hy;
      over = row_in (x + 1) y (w + 1) (h + 1) (omega arith) (omega arith);
      here = row_in (x + 1) (y + 1) (w + 1) (h + 1) (omega arith) (omega arith);
      next = row_end y (w + 1);
    }

module _ (luma : List Float) (w : ℕ) where
  -- the first row, the first column, and the rest
  pub top : (x : ℕ) → x < w + 1 → f64 0 ≡ integral_entry luma w x
  unfolding integral_at
  top x h =
      let e : 0 * (w + 1) + x ≡ x = omega arith in
      sym (by_row_lem (integral_at luma w) (w + 1) x 0 h) ∙ ap (integral_entry luma w) e

  left : (y : ℕ) → f64 0 ≡ integral_at luma w 0 (y + 1)
  unfolding integral_at
  left y = rw add-one

  pub side : (y : ℕ) → f64 0 ≡ integral_entry luma w ((y + 1) * (w + 1))
  side y =
      let e : (y + 1) * (w + 1) + 0 ≡ (y + 1) * (w + 1) = omega arith in
      left y ∙ sym (by_row_lem (integral_at luma w) (w + 1) 0 (y + 1) (omega arith)) ∙ ap (integral_entry luma w) e

  inner : (x y : ℕ) → integral_at luma w (x + 1) y ⊕ row_sum luma w y (x + 1) ≡ integral_at luma w (x + 1) (y + 1)
  unfolding integral_at
  inner x y = simp add-one

  pub entry : (x y : ℕ) (u s : Float) → x < w → u ≡ integral_at luma w (x + 1) y → s ≡ row_sum luma w y (x + 1) → u ⊕ s ≡ integral_entry luma w ((y + 1) * (w + 1) + (x + 1))
  entry x y u s h p q =
      ap (λ v. v ⊕ s) p ∙ ap (λ v. integral_at luma w (x + 1) y ⊕ v) q ∙ inner x y
      ∙ sym (by_row_lem (integral_at luma w) (w + 1) (x + 1) (y + 1) (omega arith))

  -- what is read above
  pub above : (x y n : ℕ) (a l : List Float) → a ≡ filled (integral_entry luma w) n l → n ≤ length a → x < w → y * (w + 1) + (x + 1) < n
      → get_or a (y * (w + 1) + (x + 1)) nan ≡ integral_at luma w (x + 1) y
  above x y n a l e h b i =
      let k : length a ≡ length l = ap length e ∙ length_filled _ l n in
      ap (λ m. get_or m (y * (w + 1) + (x + 1)) nan) e
      ∙ filled_at _ l n (y * (w + 1) + (x + 1)) nan i (omega arith)
      ∙ by_row_lem (integral_at luma w) (w + 1) (x + 1) y (omega arith)
