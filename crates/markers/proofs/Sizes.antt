-- Bounds of the layout's numbers. Assumes nothing.
use mathlib.Core.Path.{◌≡◌, refl}
use mathlib.Core.Bool.{Bool, true, false, not, cond, ◌&&◌, ◌||◌}
use Prim.Native.Nat.{ℕ, ◌*◌, ◌≤◌}
use native.Mathlib.Omega.{arith}
use lib.Dec.{leb, ltb}
use borrow.Author.Tests.{ltb-false}
use Rattle.frame.specs.Refusals.{side, cell_held, frame_outside}
use Rattle.frame.specs.declared.FrameSpec.{FrameSpec}
use Rattle.base.proofs.Tests.{or_left, or_right}
use Rattle.markers.specs.Layout.{marker_size, quiet_zone, margin_for, marker, no_layout, origins, layout_of}
use Rattle.markers.specs.declared.internal.Markers.{Markers}
use Rattle.std.specs.Prelude.{Some, None, Ok, Err, ok_or}
use Rattle.frame.specs.declared.refusals.Refusal.{Refusal}
use Rattle.frame.specs.declared.refusals.Refusal.TheVariants.{NoLayout}
use Rattle.float.specs.Floats.{f64}

pub marker_size_least : (cell : ℕ) → 72 ≤ marker_size cell
unfolding marker_size
marker_size_least cell = omega arith

pub marker_size_most : (cell : ℕ) → marker_size cell ≤ 96
unfolding marker_size
marker_size_most cell = omega arith

pub quiet_most : (cell : ℕ) → quiet_zone cell ≤ 16
unfolding quiet_zone
quiet_most cell = omega (arith, marker_size_most cell)

pub quiet_least : (cell : ℕ) → 12 ≤ quiet_zone cell
unfolding quiet_zone
quiet_least cell = omega (arith, marker_size_least cell)

pub margin_most : (cell : ℕ) → margin_for cell ≤ 128
unfolding margin_for
margin_most cell = omega (arith, marker_size_most cell, quiet_most cell)

pub marker_most : (f : FrameSpec) → marker f ≤ f.margin
unfolding marker
marker_most f = omega arith

-- a frame whose cell is outside its limit is refused
pub cell_outside : (f : FrameSpec) → cell_held f.cell ≡ false → frame_outside f ≡ true
unfolding frame_outside
cell_outside f e = rw e (fails (side f.width && side f.height) (leb f.margin 4096))
  where
    fails : (a b : Bool) → not (a && false && b) ≡ true
    fails true b = refl
    fails false b = refl

-- what a layout gives
pub record LayoutHeld (f : FrameSpec) : Type 0 where
  pub margin_least : 2 * quiet_zone f.cell ≤ f.margin
  pub marker_least : 24 ≤ marker f
  pub width_room : 4 * f.margin ≤ f.width
  pub height_room : 4 * f.margin ≤ f.height

pub layout_held : (f : FrameSpec) → no_layout f ≡ false → LayoutHeld f
unfolding no_layout
layout_held f e =
    let p = ltb f.margin (2 * quiet_zone f.cell) in
    let q = ltb (marker f) 24 in
    let r = ltb f.width (4 * f.margin) in
    let s = ltb f.height (4 * f.margin) in
    let a = or_left (p || q || r) s e in
    let b = or_left (p || q) r a in
    record {
      margin_least = ltb-false _ _ (or_left p q b);
      marker_least = ltb-false _ _ (or_right p q b);
      width_room = ltb-false _ _ (or_right (p || q) r a);
      height_room = ltb-false _ _ (or_right (p || q || r) s e);
    }

-- what `marker_layout` gives, once None is refused
module _ (f : FrameSpec) where
  abbrev pub placed : Markers
  placed = record { m = f64 (marker f); origins = origins f }

  pub layout_refused : (r : Refusal) → ok_or (layout_of f) NoLayout ≡ Err r → (no_layout f ≡ true) × (r ≡ NoLayout)
  unfolding layout_of
  layout_refused r = go (no_layout f)
    where
      go : (t : Bool) → ok_or (cond t None (Some placed)) NoLayout ≡ Err r → (t ≡ true) × (r ≡ NoLayout)
      go true e = (refl, cc)
      go false e = let z : ◌≡◌ {A = ℕ} 0 1 = cc in absurd (omega arith)

  pub layout_given : (k : Markers) → ok_or (layout_of f) NoLayout ≡ Ok k → (no_layout f ≡ false) × (k ≡ placed)
  unfolding layout_of
  layout_given k = go (no_layout f)
    where
      go : (t : Bool) → ok_or (cond t None (Some placed)) NoLayout ≡ Ok k → (t ≡ false) × (k ≡ placed)
      go true e = let z : ◌≡◌ {A = ℕ} 0 1 = cc in absurd (omega arith)
      go false e = (refl, cc)
