-- Laws of the walk over taps, columns and rows, and of the sums. Assumes nothing.
use mathlib.Core.Path.{◌≡◌, refl, sym, ap, ◌∙◌}
use mathlib.Core.Bool.{Bool, true, false}
use mathlib.Core.List.{List}
use Rattle.std.specs.Prelude.{Option, Some, None}
use Prim.Native.Nat.{ℕ, ◌+◌, ◌*◌, ◌/◌, ◌≤◌, ◌<◌}
use native.Mathlib.Omega.{arith}
use lib.Ieee.{Float, nan}
use lib.ListN.{get_or, length, set}
use Rattle.base.specs.Loops.{turns, filled, by_row}
use Rattle.base.proofs.Turns.{turns_leave, turns_step, turns_keep, turns_end, turns_cong}
use Rattle.base.proofs.Plane.{length_filled, filled_at, filled_step, filled_end}
use Rattle.base.proofs.Pick.{pick_yes, pick_no}
use Rattle.float.specs.Floats.{◌⊕◌, ◌⊖◌, ◌⊘◌, f64, squared, add_at, sum_of}
use Rattle.frame.specs.Image.{Image, outside}
use Rattle.frame.specs.Frame.{cols, rows}
use Rattle.frame.specs.Limits.{FrameHeld}
use native.Mathlib.Nat.{le_trans, div-le_self}
use Rattle.frame.specs.declared.Point.{Point}
use Rattle.sampling.specs.Reading.{inside, sample_at}
use Rattle.sampling.specs.declared.Sample.{Sample}
use Rattle.frame.specs.declared.FrameSpec.{FrameSpec}
use Rattle.fit.specs.declared.GeometryFit.{GeometryFit}
use Rattle.fit.proofs.CellNumber.{number_of}
use Rattle.fit.specs.declared.Grade.TheVariants.{Outside}
use Rattle.fit.specs.Grid.{across, down, tap_place, luma64, tap_outside, Walk, Going, Ended, tap_step, cell_step, row_step, walked, listed, mean, variance, tap}
use Rattle.fit.specs.Grid.{cell_tap, cell_mean, cell_variance, fisher, fisher_of, grade_from, grade_inside, grade_of}

-- the walk that the loops' variable stands for
abbrev pub walk_of : Option ℕ → Walk
walk_of None = Going
walk_of (Some cell) = Ended cell

module _ (img : Image) (f : FrameSpec) (fit : GeometryFit) where
  -- what ended stays
  pub cell_stays : (y cell x : ℕ) → cell_step img f fit y x (Ended cell) ≡ Ended cell
  unfolding cell_step
  cell_stays y cell x =
      turns_keep (tap_step img f fit y x) (Ended cell) (λ w. w ≡ Ended cell) refl (λ i w e. ap (tap_step img f fit y x i) e) 9

  pub row_stays : (cell y : ℕ) → row_step img f fit y (Ended cell) ≡ Ended cell
  unfolding row_step
  row_stays cell y =
      turns_keep (cell_step img f fit y) (Ended cell) (λ w. w ≡ Ended cell) refl (λ x w e. ap (cell_step img f fit y x) e ∙ cell_stays y cell x) (across f)

  -- a tap inside, and a tap outside
  pub tap_in : (y x i : ℕ) → tap_outside img f fit (3 * x) (3 * y) i ≡ false → Going ≡ tap_step img f fit y x i Going
  tap_in y x i e = pick_no _ _ _ e

  pub tap_out : (y x i : ℕ) → tap_outside img f fit (3 * x) (3 * y) i ≡ true → tap_step img f fit y x i Going ≡ Ended (number_of f x y)
  tap_out y x i e = sym (pick_yes _ _ _ e)

  -- the first tap outside ends the three walks
  pub leaves :
      (y x i : ℕ) →
      Going ≡ turns y (row_step img f fit) Going →
      Going ≡ turns x (cell_step img f fit y) Going →
      Going ≡ turns i (tap_step img f fit y x) Going →
      tap_outside img f fit (3 * x) (3 * y) i ≡ true →
      y + 1 ≤ down f →
      x + 1 ≤ across f →
      i + 1 ≤ 9 →
      walked img f fit ≡ Ended (number_of f x y)
  unfolding walked row_step cell_step
  leaves y x i ey ex ei out hy hx hi =
      let cell = number_of f x y in
      let taps : cell_step img f fit y x Going ≡ Ended cell =
      turns_leave _ _ _ (λ k. refl) i 9 ei (tap_out y x i out) hi in
      let cells : row_step img f fit y Going ≡ Ended cell =
      turns_leave (cell_step img f fit y) _ _ (cell_stays y cell) x _ ex taps hx in
      turns_leave (row_step img f fit) _ _ (row_stays cell) y _ ey cells hy

  -- the grade of a walk that ended, and of one that did not
  pub grade_out : {cell : ℕ} → Ended cell ≡ walked img f fit → Outside cell ≡ grade_of img f fit
  unfolding grade_of
  grade_out e = ap (λ w. grade_from w (grade_inside (down f * across f) (fisher img f fit (down f * across f)))) e

  pub grade_in : Going ≡ walked img f fit → grade_inside (down f * across f) (fisher img f fit (down f * across f)) ≡ grade_of img f fit
  unfolding grade_of
  grade_in e = ap (λ w. grade_from w (grade_inside (down f * across f) (fisher img f fit (down f * across f)))) e

-- equal numbers have equal sums, means and variances
sum_same : (v u : ℕ → Float) (n : ℕ) → ((k : ℕ) → k < n → v k ≡ u k) → sum_of v n ≡ sum_of u n
unfolding sum_of
sum_same v u n h = turns_cong (add_at v) (add_at u) (f64 0) n (λ k s r. ap (λ z. s ⊕ z) (h k r))

pub mean_same : (v u : ℕ → Float) (n : ℕ) → ((k : ℕ) → k < n → v k ≡ u k) → mean v n ≡ mean u n
unfolding mean
mean_same v u n h = ap (λ s. s ⊘ f64 n) (sum_same v u n h)

pub variance_same : (v u : ℕ → Float) (n : ℕ) (m : Float) → ((k : ℕ) → k < n → v k ≡ u k) → variance v n m ≡ variance u n m
unfolding variance
variance_same v u n m h = ap (λ s. s ⊘ f64 n) (sum_same _ _ n (λ k r. ap (λ z. squared (z ⊖ m)) (h k r)))

-- a list that holds a table
module _ (v : ℕ → Float) (n : ℕ) (a l : List Float) (e : a ≡ filled v n l) (h : n ≤ length l) where
  holds : (k : ℕ) → k < n → listed a k ≡ v k
  holds k r = ap (λ b. get_or b k nan) e ∙ filled_at v l n k nan r h

  pub mean_filled : mean (listed a) n ≡ mean v n
  mean_filled = mean_same _ v n holds

  pub variance_filled : (m : Float) → variance (listed a) n m ≡ variance v n m
  variance_filled m = variance_same _ v n m holds

  pub fisher_filled : (w : Float) → fisher_of (listed a) w n ≡ fisher_of v w n
  unfolding fisher_of
  fisher_filled w =
      ap (λ m. variance (listed a) n m ⊘ (w ⊘ f64 n ⊕ f64 1)) mean_filled
      ∙ ap (λ z. z ⊘ (w ⊘ f64 n ⊕ f64 1)) (variance_filled (mean v n))

-- what a whole walk leaves, and its grade
module _ (img : Image) (f : FrameSpec) (fit : GeometryFit) where
  pub record Whole (l m : List Float) (w : Float) : Type 0 where
    pub going : Going ≡ walked img f fit
    pub means : m ≡ filled (by_row (across f) (cell_mean img f fit)) (down f * across f) l
    pub within : w ≡ sum_of (by_row (across f) (cell_variance img f fit)) (down f * across f)

  pub grade_whole : {l m : List Float} {w : Float} → Whole l m w → length m ≡ down f * across f → down f * across f ≤ length l
      → grade_inside (length m) (fisher_of (listed m) w (length m)) ≡ grade_of img f fit
  unfolding fisher
  grade_whole {l} {m} {w} k e h =
      let v = by_row (across f) (cell_mean img f fit) in
      ap (λ n. grade_inside n (fisher_of (listed m) w n)) e
      ∙ ap (grade_inside (down f * across f)) (fisher_filled v (down f * across f) m l k.means h w ∙ ap (λ z. fisher_of v z (down f * across f)) k.within)
      ∙ grade_in img f fit k.going

-- one more entry, and one more term
pub filled_put : (v : ℕ → Float) (l : List Float) (j n m : ℕ) (x : Float) {b : List Float} → b ≡ filled v j l → n ≡ j → x ≡ v j → j + 1 ≡ m → set b n x ≡ filled v m l
filled_put v l j n m x {b} e p q r = ap (λ i. set b i x) p ∙ filled_end v l _ _ (filled_step v l j x e q) r

pub sum_put : (v : ℕ → Float) (j m : ℕ) (x : Float) {s : Float} → s ≡ sum_of v j → x ≡ v j → j + 1 ≡ m → s ⊕ x ≡ sum_of v m
unfolding sum_of
sum_put v j m x {s} e q r = ap (λ z. s ⊕ z) q ∙ turns_end _ _ _ _ (turns_step (add_at v) _ j e) r

-- a frame's columns and rows
whole_part : (a b n : ℕ) → a ≤ n → 1 ≤ b → a / b ≤ n
whole_part a b n h r = le_trans (div-le_self a b) h

pub cols_most : (f : FrameSpec) → FrameHeld f → cols f ≤ 4096
unfolding cols
cols_most f h = whole_part _ f.cell 4096 (omega arith) (omega arith)

pub rows_most : (f : FrameSpec) → FrameHeld f → rows f ≤ 4096
unfolding rows
rows_most f h = whole_part _ f.cell 4096 (omega arith) (omega arith)

-- ---- the values of the code
module _ (img : Image) (f : FrameSpec) (fit : GeometryFit) (c r i : ℕ) {p : Point} (at : p ≡ tap_place f fit c r i) where
  pub tap_outside_is : {b : Bool} → b ≡ outside img.w img.h p.x p.y → b ≡ tap_outside img f fit c r i
  unfolding tap_outside
  tap_outside_is e = e ∙ ap (λ (z : Point). outside img.w img.h z.x z.y) at

  pub tap_is : {s : Sample} {v : Float} → s ≡ sample_at img p → v ≡ luma64 s.colour → v ≡ tap img f fit c r i
  unfolding tap sample_at
  tap_is e d = d ∙ ap (λ (z : Sample). luma64 z.colour) (e ∙ ap (sample_at img) at)

-- what an answer tells of its position
pub sample_inside : (img : Image) (p : Point) {s : Sample} → s ≡ sample_at img p → s.inside ≡ inside img.w img.h p.x p.y
unfolding sample_at
sample_inside img p e = ap (λ (z : Sample). z.inside) e

module _ (img : Image) (f : FrameSpec) (fit : GeometryFit) (x y : ℕ) (a l : List Float) (e : a ≡ filled (cell_tap img f fit x y) 9 l) (h : length l ≡ 9) where
  nine : length a ≡ 9
  nine = ap length e ∙ length_filled (cell_tap img f fit x y) l 9 ∙ h

  pub cell_mean_is : {m : Float} → m ≡ mean (listed a) (length a) → m ≡ cell_mean img f fit x y
  unfolding cell_mean
  cell_mean_is d = d ∙ ap (mean (listed a)) nine ∙ mean_filled (cell_tap img f fit x y) 9 a l e (omega arith)

  pub cell_variance_is : {m v : Float} → v ≡ variance (listed a) (length a) m → m ≡ cell_mean img f fit x y → v ≡ cell_variance img f fit x y
  unfolding cell_variance
  cell_variance_is {m} d g =
      d ∙ ap (λ n. variance (listed a) n m) nine
      ∙ ap (variance (listed a) 9) g
      ∙ variance_filled (cell_tap img f fit x y) 9 a l e (omega arith) (cell_mean img f fit x y)
