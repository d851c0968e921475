-- A place that is not outside the picture has its pixel there. Assumes nothing.
use Prim.Native.Nat.{ℕ, ◌+◌, ◌*◌, ◌/◌, ◌^◌, ◌≤◌, ◌<◌}
use mathlib.Core.Path.{◌≡◌, refl, sym, subst, ◌∙◌}
use mathlib.Core.Bool.{Bool, true, false, ◌||◌}
use mathlib.Core.List.{List}
use native.Mathlib.Nat.{div-lt_iff_lt-mul, mul-one, lt_of_not-le}
use native.Mathlib.Omega.{arith}
use lib.Ieee.{Float, nan, inf, fin, up, down, lt, le, eq, to_unsigned}
use lib.Ieee.Exact.{HasValue}
use lib.Ieee.Fits.{down_pos}
use lib.Ieee.Order.{le_of_values}
use Rattle.base.proofs.Arith.{product_le, row_in}
use Rattle.base.proofs.Tests.{or_left, or_right, holds, refuted}
use Rattle.float.specs.Floats.{f64, as_usize}
use Rattle.float.proofs.Numbers.{f64_value}
use Rattle.frame.specs.Image.{outside}
use Rattle.candidates.specs.Held.{PlanesHeld}

no_infinity : (x : Float) (n : ℕ) → HasValue x false n 1 → le x (inf false) ≡ true
unfolding le lt eq
no_infinity nan n h = absurd h
no_infinity (inf s) n h = absurd h
no_infinity (fin s m e) n h = refl

-- what is not n or more is cut to less than n
pub cut_below : (n : ℕ) (x : Float) → 1 ≤ n → n ≤ 4096 → le (f64 n) x ≡ false → as_usize x < n
unfolding to_unsigned
cut_below n nan o h e = o
cut_below n (inf true) o h e = o
cut_below n (inf false) o h e = absurd (refuted (le (f64 n) (inf false)) e (holds (no_infinity (f64 n) n (f64_value n (omega arith)))))
cut_below n (fin true m k) o h e = o
cut_below n (fin false m k) o h e =
    let less : m * up k < n * down k =
    lt_of_not-le (λ g. refuted (le (f64 n) (fin false m k)) e
    (le_of_values (f64 n) (fin false m k) n 1 (m * up k) (down k) (omega arith) (down_pos k) (f64_value n (omega arith))
    (refl, refl) (subst (λ z. n * down k ≤ z) (sym (mul-one (m * up k))) g))) in
    let cut : m * up k / down k < n = (div-lt_iff_lt-mul (down_pos k)).1 less in
    omega arith

-- the pixel of a place in the picture
pub pixel_in : (w h : ℕ) (x y : Float) → 1 ≤ w → w ≤ 4096 → 1 ≤ h → h ≤ 4096 → outside w h x y ≡ false → (as_usize x < w) × (as_usize y < h)
    × (as_usize y * w + as_usize x < w * h)
unfolding outside
pixel_in w h x y w1 w2 h1 h2 e =
    let past = lt x (f64 0) || lt y (f64 0) in
    let ex : (past || le (f64 w) x) ≡ false = or_left (past || le (f64 w) x) (le (f64 h) y) e in
    let cx : as_usize x < w = cut_below w x w1 w2 (or_right past (le (f64 w) x) ex) in
    let cy : as_usize y < h = cut_below h y h1 h2 (or_right (past || le (f64 w) x) (le (f64 h) y) e) in
    (cx, cy, row_in (as_usize x) (as_usize y) w h cx cy)

-- .. with its number worked out from the cut coordinates x' and y'
pub record Pixel (w h x' y' : ℕ) : Type 0 where
  pub row : y' * w < 2 ^ 32
  pub number : y' * w + x' < 2 ^ 32
  pub within : y' * w + x' < w * h

pub pixel : {m : List ℕ} {luma : List Float} (w h : ℕ) (x y : Float) {out : Bool} {x' y' : ℕ} → PlanesHeld w h m luma → out ≡ outside w h x y → out ≡ false
    → x' ≡ as_usize x → y' ≡ as_usize y → Pixel w h x' y'
pixel w h x y {x' = x'} {y' = y'} planes e f ex ey =
    let p = pixel_in w h x y planes.w_some planes.w_held planes.h_some planes.h_held (sym e ∙ f) in
    let q : y' * w + x' < w * h = subst (λ z. z * w + x' < w * h) (sym ey) (subst (λ z. as_usize y * w + z < w * h) (sym ex) p.2) in
    let r : w * h ≤ 4096 * 4096 = product_le w h 4096 4096 planes.w_held planes.h_held in
    record { row = omega arith; number = omega arith; within = q }
