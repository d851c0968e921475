-- Rectangles: their test by meaning, a common pixel, and how far two centres are apart at most. Assumes nothing.
use Prim.Native.Nat.{ℕ, ◌+◌, ◌*◌, ◌≤◌, max}
use native.Mathlib.Omega.{arith}
use mathlib.Core.Path.{◌≡◌}
use mathlib.Core.Bool.{Bool, true, ◌&&◌}
use lib.Dec.{leb}
use borrow.Author.Tests.{leb-true, le-leb}
use Rattle.base.proofs.Arith.{product_le}
use Rattle.base.proofs.Tests.{and_left, and_right, and_both}
use Rattle.windows.specs.Rectangles.{Valid, valid, Shares, touches, apart, distance}
use Rattle.windows.specs.declared.Rectangle.{Rectangle}

-- ---- four tests that hold together
module _ (a b c d : Bool) where
  pub record All : Type 0 where
    pub first : a ≡ true
    pub second : b ≡ true
    pub third : c ≡ true
    pub fourth : d ≡ true

  pub all_hold : a && b && c && d ≡ true → All
  all_hold e =
      let p = and_left (a && b && c) d e in
      let q = and_left (a && b) c p in
      record { first = and_left a b q; second = and_right a b q; third = and_right (a && b) c p; fourth = and_right (a && b && c) d e }

  pub hold_all : All → a && b && c && d ≡ true
  hold_all t = and_both _ d (and_both _ c (and_both a b t.first t.second) t.third) t.fourth

-- ---- the test
module _ (r : Rectangle) where
  pub valid_is : valid r ≡ true → Valid r
  unfolding valid
  valid_is e =
      let t = all_hold (leb r.x0 r.x1) (leb r.y0 r.y1) (leb r.x1 4095) (leb r.y1 4095) e in
      record {
        x_rises = leb-true _ _ t.first;
        y_rises = leb-true _ _ t.second;
        x_held = leb-true _ _ t.third;
        y_held = leb-true _ _ t.fourth;
      }

  pub is_valid : Valid r → valid r ≡ true
  unfolding valid
  is_valid s =
      hold_all (leb r.x0 r.x1) (leb r.y0 r.y1) (leb r.x1 4095) (leb r.y1 4095)
      record {
        first = le-leb _ _ s.x_rises;
        second = le-leb _ _ s.y_rises;
        third = le-leb _ _ s.x_held;
        fourth = le-leb _ _ s.y_held;
      }

-- ---- a common pixel: the later start in columns and in rows belongs to both where to any
module _ (r b : Rectangle) where
  pub touches_shares : Valid r → Valid b → touches r b ≡ true → Shares r b
  unfolding touches
  touches_shares s t e =
      let h = all_hold (leb b.x0 r.x1) (leb r.x0 b.x1) (leb b.y0 r.y1) (leb r.y0 b.y1) e in
      let p : b.x0 ≤ r.x1 = leb-true _ _ h.first in
      let q : r.x0 ≤ b.x1 = leb-true _ _ h.second in
      let u : b.y0 ≤ r.y1 = leb-true _ _ h.third in
      let v : r.y0 ≤ b.y1 = leb-true _ _ h.fourth in (
        max r.x0 b.x0,
        max r.y0 b.y0,
        record { x_start = omega arith; x_end = omega arith; y_start = omega arith; y_end = omega arith },
        record { x_start = omega arith; x_end = omega arith; y_start = omega arith; y_end = omega arith },
      )

  pub shares_touches : Shares r b → touches r b ≡ true
  unfolding touches
  shares_touches s =
      let m = s.2 in
      let n = s.3 in
      hold_all (leb b.x0 r.x1) (leb r.x0 b.x1) (leb b.y0 r.y1) (leb r.y0 b.y1)
      record {
        first = le-leb b.x0 r.x1 (omega (arith, n.x_start, m.x_end));
        second = le-leb r.x0 b.x1 (omega (arith, m.x_start, n.x_end));
        third = le-leb b.y0 r.y1 (omega (arith, n.y_start, m.y_end));
        fourth = le-leb r.y0 b.y1 (omega (arith, m.y_start, n.y_end));
      }

-- ---- centres
pub apart_most : (a b m : ℕ) → a ≤ m → b ≤ m → apart a b ≤ m
unfolding apart
apart_most a b m h k = omega arith

-- a side of the picture doubled, squared
pub side_apart : (a b c d : ℕ) → a ≤ b → b ≤ 4095 → c ≤ d → d ≤ 4095 → apart (a + b) (c + d) ≤ 8190
side_apart a b c d h k l m = apart_most (a + b) (c + d) 8190 (omega arith) (omega arith)

pub square_most : (a : ℕ) → a ≤ 8190 → a * a ≤ 67076100
square_most a h = product_le a a 8190 8190 h h

pub distance_most : (r b : Rectangle) → Valid r → Valid b → distance r b ≤ 134152200
unfolding distance
distance_most r b s t =
    let p = square_most _ (side_apart _ _ _ _ s.x_rises s.x_held t.x_rises t.x_held) in
    let q = square_most _ (side_apart _ _ _ _ s.y_rises s.y_held t.y_rises t.y_held) in
    omega (arith, p, q)
