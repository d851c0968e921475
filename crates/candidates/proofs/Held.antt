-- The record of a patch is within bounds. Assumes nothing.
use Prim.Native.Nat.{ℕ, ◌*◌, ◌^◌, ◌≤◌, ◌<◌}
use mathlib.Core.Path.{subst, ◌∙◌}
use mathlib.Core.List.{List}
use native.Mathlib.Nat.{le_trans, le_of_eq, mul-le-mul, mul_comm, mod-le, mod-lt, div-le_self, div-lt_iff_lt-mul}
use lib.Dec.{leb→le}
use lib.ListN.{length}
use lib.Ieee.{Float}
use Rattle.base.proofs.Arith.{product_le}
use Rattle.blobs.specs.Patches.{Joined, Least, Greatest, column, row, PatchOf}
use Rattle.blobs.proofs.Grid.{dark_inside}
use Rattle.blobs.proofs.Joins.{joined_dark}
use Rattle.blobs.proofs.Sums.{total_below}
use Rattle.blobs.specs.declared.Blob.{Blob}
use Rattle.candidates.specs.Held.{PlanesHeld}
use Rattle.candidates.specs.Bounds.{BlobHeld}
use Rattle.candidates.proofs.Sums.{total_capped, marks_few}

bounded : (f : ℕ → ℕ) (P : ℕ → Type 0) (lo hi : ℕ) → Least f P lo → Greatest f P hi → lo ≤ hi
bounded f P lo hi l g = subst (λ z. lo ≤ z) g.1.2 (l.0 g.1.0 g.1.1)

-- 16,777,216 is the most pixels
square : (n : ℕ) → n ≤ 16777216 → n * n ≤ 2 ^ 53
square n h = le_trans (mul-le-mul h h) (leb→le (16777216 * 16777216) (2 ^ 53) tt)

pub pixels_held : (w h : ℕ) → w ≤ 4096 → h ≤ 4096 → w * h ≤ 16777216
pixels_held w h a b = le_trans (product_le w h 4096 4096 a b) (leb→le (4096 * 4096) 16777216 tt)

-- the area and the sums of a patch, within 2 ^ 53
pub record SumsHeld (t : Blob) : Type 0 where
  pub area : t.area ≤ 2 ^ 53
  pub sx : t.sx ≤ 2 ^ 53
  pub sy : t.sy ≤ 2 ^ 53

pub sums_held : (m : List ℕ) (w p : ℕ) (t : Blob) → length m ≤ 16777216 → PatchOf m w p t → SumsHeld t
sums_held m w p t l k =
    let n = length m in
    let few : (q : ℕ) → k.marks q ≤ 1 = marks_few k.marks (Joined m w p) k.marked in
    let s : n * n ≤ 2 ^ 53 = square n l in
    record {
      area = le_trans (le_of_eq k.area_is) (le_trans (total_below k.marks n (λ q _. few q)) (le_trans l (leb→le 16777216 (2 ^ 53) tt)));
      sx = le_trans (le_of_eq k.sx_is) (le_trans (total_capped (column w) k.marks n few (λ q. mod-le q w)) s);
      sy = le_trans (le_of_eq k.sy_is) (le_trans (total_capped (row w) k.marks n few (λ q. div-le_self q w)) s);
    }

pub blob_held : (w h : ℕ) (m : List ℕ) (luma : List Float) (p : ℕ) (t : Blob) → PlanesHeld w h m luma → PatchOf m w p t → BlobHeld w h t
blob_held w h m luma p t r k =
    let J = Joined m w p in
    let l : length m ≤ 16777216 = le_trans (le_of_eq r.mask_long) (pixels_held w h r.w_held r.h_held) in
    let s = sums_held m w p t l k in
    let gx = k.x1_is.1 in
    let gy = k.y1_is.1 in
    let ly : gy.0 < length m = dark_inside m gy.0 (joined_dark gy.1) in
    record {
      x_ordered = bounded (column w) J t.x0 t.x1 k.x0_is k.x1_is;
      x_in = subst (λ z. z < w) gx.2 (mod-lt gx.0 r.w_some);
      y_ordered = bounded (row w) J t.y0 t.y1 k.y0_is k.y1_is;
      y_in = subst (λ z. z < h) gy.2 ((div-lt_iff_lt-mul r.w_some).1 (subst (λ z. gy.0 < z) (r.mask_long ∙ mul_comm w h) ly));
      area_held = s.area;
      sx_held = s.sx;
      sy_held = s.sy;
    }
