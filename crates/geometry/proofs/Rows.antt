-- A row of pixels, three bytes each. Assumes nothing.
use mathlib.Core.Path.{◌≡◌, sym, ap, ◌∙◌}
use mathlib.Core.List.{List}
use Prim.Native.Nat.{ℕ, ◌+◌, ◌*◌, ◌/◌, ◌%◌, ◌<◌, ◌≤◌}
use native.Mathlib.Omega.{arith}
use lib.Arith.{digits_div, digits_mod}
use lib.ListN.{length, set}
use Rattle.base.specs.Loops.{filled, by_row}
use Rattle.base.proofs.Plane.{filled_step, filled_end, by_row_lem}
use Rattle.frame.specs.Image.{Image, channel, byte_of}
use Rattle.frame.specs.declared.Rgb.{Rgb}
use Rattle.fit.specs.declared.GeometryFit.{GeometryFit}
use native.Mathlib.Nat.{mul_comm, mul_assoc}
use Rattle.base.proofs.Arith.{row_end, product_le}
use Rattle.geometry.specs.Warp.{reading, row_byte}

module _ (img : Image) (fit : GeometryFit) (y : ℕ) where
  -- byte k of the pixel in column x
  byte : (x k : ℕ) → k < 3 → row_byte img fit y (x * 3 + k) ≡ channel k (reading img fit x y)
  unfolding row_byte
  byte x k b =
      ap (λ i. channel i (reading img fit ((x * 3 + k) / 3) y)) (digits_mod x b)
      ∙ ap (λ i. channel k (reading img fit i y)) (digits_div x b)

  -- a pixel's three stores
  pub pixel_stored : (x : ℕ) (l : List ℕ) (p : Rgb) {b : List ℕ} → p ≡ reading img fit x y → b ≡ filled (row_byte img fit y) (x * 3) l
      → set (set (set b (x * 3) p.r) (x * 3 + 1) p.g) (x * 3 + 2) p.b ≡ filled (row_byte img fit y) ((x + 1) * 3) l
  unfolding channel
  pixel_stored x l p q e =
      let f = row_byte img fit y in
      let i = x * 3 in
      let z : i + 0 ≡ i = omega arith in
      let e0 = filled_step f l i p.r e (ap (λ r. r.r) q ∙ sym (byte x 0 (omega arith)) ∙ ap f z) in
      let e1 = filled_step f l (i + 1) p.g e0 (ap (λ r. r.g) q ∙ sym (byte x 1 (omega arith))) in
      let e1' = filled_end f l (i + 1 + 1) (i + 2) e1 (omega arith) in
      let e2 = filled_step f l (i + 2) p.b e1' (ap (λ r. r.b) q ∙ sym (byte x 2 (omega arith))) in
      filled_end f l (i + 2 + 1) ((x + 1) * 3) e2 (omega arith)

-- row y of a canonical image of rows of n pixels
pub row_byte_lem : (img : Image) (fit : GeometryFit) (n y j : ℕ) → j < 3 * n → row_byte img fit y j ≡ byte_of n (reading img fit) (y * (3 * n) + j)
unfolding row_byte
row_byte_lem img fit n y j h =
    let p : y * (3 * n) ≡ 3 * (y * n) = mul_assoc' in
    let d : (y * (3 * n) + j) / 3 ≡ y * n + j / 3 = omega arith in
    let m : (y * (3 * n) + j) % 3 ≡ j % 3 = omega arith in
    sym (ap (λ i. channel i (by_row n (reading img fit) ((y * (3 * n) + j) / 3))) m
    ∙ ap (λ i. channel (j % 3) (by_row n (reading img fit) i)) d
    ∙ ap (channel (j % 3)) (by_row_lem (reading img fit) n (j / 3) y (omega arith)))
  where
    mul_assoc' : y * (3 * n) ≡ 3 * (y * n)
    mul_assoc' = sym (mul_assoc y 3 n) ∙ ap (λ k. k * n) (mul_comm y 3) ∙ mul_assoc 3 y n

-- a row lies within its image
row_fits : (y h s : ℕ) → y < h → y * s + s ≤ s * h
row_fits y h s b = omega (arith, row_end y s, product_le (y + 1) s h s (omega arith) (omega arith), mul_comm h s)

-- row y lies within an image of rows of n pixels
pub row_room : (y n h : ℕ) (l c : List ℕ) → y < h → length l ≡ 3 * n * h → length c ≡ length l → y * (3 * n) + 3 * n ≤ length c
row_room y n h l c b e k = omega (arith, row_fits y h (3 * n) b)
