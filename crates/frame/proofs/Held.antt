-- The limits, where the tests do not refuse. Assumes nothing.
use mathlib.Core.Path.{◌≡◌}
use mathlib.Core.Bool.{true, false, not, ◌&&◌}
use Prim.Native.Nat.{ℕ, ◌*◌, ◌≤◌}
use lib.Dec.{leb, ltb, eqb}
use lib.ListN.{length}
use borrow.Author.Tests.{leb-true, eqb-true, not-false, not-true, ltb-false}
use Rattle.frame.specs.Image.{Image}
use Rattle.frame.specs.Refusals.{side, cell_held, frame_outside, sides_wrong, capture_wrong, capture_small}
use Rattle.frame.specs.Limits.{FrameHeld, SidesHeld, CaptureHeld}
use Rattle.frame.specs.declared.FrameSpec.{FrameSpec}
use Rattle.base.proofs.Tests.{and_left, and_right, or_left, or_right}

pub side_least : (n : ℕ) → side n ≡ true → 1 ≤ n
unfolding side
side_least n e = leb-true 1 n (and_left _ _ e)

pub side_most : (n : ℕ) → side n ≡ true → n ≤ 4096
unfolding side
side_most n e = leb-true n 4096 (and_right (leb 1 n) _ e)

pub cell_least : (n : ℕ) → cell_held n ≡ true → 1 ≤ n
unfolding cell_held
cell_least n e = leb-true 1 n (and_left _ _ e)

pub cell_most : (n : ℕ) → cell_held n ≡ true → n ≤ 512
unfolding cell_held
cell_most n e = leb-true n 512 (and_right (leb 1 n) _ e)

pub frame_held : (f : FrameSpec) → frame_outside f ≡ false → FrameHeld f
unfolding frame_outside
frame_held f e =
    let a = not-false _ e in
    let b = and_left _ (leb f.margin 4096) a in
    let d = and_left _ (cell_held f.cell) b in
    let w = and_left _ (side f.height) d in
    let h = and_right (side f.width) _ d in
    let k = and_right (side f.width && side f.height) _ b in
    record {
      width_least = side_least _ w;
      width_most = side_most _ w;
      height_least = side_least _ h;
      height_most = side_most _ h;
      cell_least = cell_least _ k;
      cell_most = cell_most _ k;
      margin_most = leb-true _ 4096 (and_right (side f.width && side f.height && cell_held f.cell) _ a);
    }

pub sides_held : (w h : ℕ) → sides_wrong w h ≡ false → SidesHeld w h
unfolding sides_wrong
sides_held w h e =
    let a = not-false _ e in
    let x = and_left _ (side h) a in
    let y = and_right (side w) _ a in
    record { w_least = side_least _ x; w_most = side_most _ x; h_least = side_least _ y; h_most = side_most _ y }

pub capture_held : (img : Image) → capture_wrong img ≡ false → CaptureHeld img
unfolding capture_wrong
capture_held img e =
    let a = not-false _ e in
    let b = and_left _ (eqb (length img.bytes) (3 * img.w * img.h)) a in
    let x = and_left _ (side img.h) b in
    let y = and_right (side img.w) _ b in
    record {
      w_least = side_least _ x;
      w_most = side_most _ x;
      h_least = side_least _ y;
      h_most = side_most _ y;
      bytes_held = eqb-true _ _ (and_right (side img.w && side img.h) _ a);
    }

-- where the sides are wrong, so is the capture; else it is by its length
pub sides_capture : (img : Image) → sides_wrong img.w img.h ≡ true → capture_wrong img ≡ true
unfolding capture_wrong sides_wrong
sides_capture img e = rw (not-true (side img.w && side img.h) e)

pub length_capture : (img : Image) → sides_wrong img.w img.h ≡ false → capture_wrong img ≡ not (eqb (length img.bytes) (3 * img.w * img.h))
unfolding capture_wrong sides_wrong
length_capture img e = rw (not-false (side img.w && side img.h) e)

-- a capture that is not small
pub large_w : (img : Image) → capture_small img ≡ false → 32 ≤ img.w
unfolding capture_small
large_w img e = ltb-false _ _ (or_left _ _ e)

pub large_h : (img : Image) → capture_small img ≡ false → 32 ≤ img.h
unfolding capture_small
large_h img e = ltb-false _ _ (or_right (ltb img.w 32) _ e)
