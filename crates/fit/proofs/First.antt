-- The cell that the outside grade names is the first by row, then column: the theorems of specs/First. Assumes nothing.
use mathlib.Core.Path.{◌≡◌, refl, sym, ap, subst, ◌∙◌}
use mathlib.Core.Bool.{Bool, true, false, cond}
use mathlib.Core.Logic.{inl, inr, ⊎_elim}
use Prim.Native.Nat.{ℕ, zero, suc, ◌+◌, ◌*◌, ◌/◌, ◌%◌, ◌<◌}
use native.Mathlib.Omega.{arith}
use lib.Dec.{ltb}
use lib.Ieee.{Float}
use lib.Arith.{digits_div, digits_mod}
use borrow.Author.Tests.{lt-ltb, le-ltb}
use Rattle.base.specs.Loops.{turns}
use Rattle.base.proofs.Arith.{last_or}
use Rattle.base.proofs.Pick.{pick_yes, pick_no}
use Rattle.base.proofs.Tests.{either, holds, refuted}
use Rattle.base.proofs.Turns.{turns_leave}
use Rattle.frame.specs.Image.{Image}
use Rattle.frame.specs.Frame.{cols}
use Rattle.frame.specs.declared.FrameSpec.{FrameSpec}
use Rattle.fit.specs.declared.GeometryFit.{GeometryFit}
use Rattle.fit.specs.declared.Grade.TheVariants.{Score, Outside, TooFew}
use Rattle.fit.specs.Grid.{across, down, tap_outside, Walk, Going, Ended, tap_step, cell_step, row_step, walked, fisher, grade_from, grade_of}
use Rattle.fit.specs.Promises.{sampled_cells}
use Rattle.fit.specs.First.{Sampled, HasTapOutside, FirstOutside, OutsideIs, OneFirst, NumberTells, SomeOutside, NoneOutside}
use Rattle.fit.proofs.CellNumber.{number_of}
use Rattle.fit.proofs.Walks.{tap_in, tap_out, cell_stays, row_stays, grade_out, grade_in}

going_not_ended : {cell : ℕ} → Going ≡ Ended cell → ⊥
going_not_ended {cell} e = let z : ◌≡◌ {A = ℕ} 0 1 = cc in omega arith

ended_one : {a b : ℕ} → Ended a ≡ Ended b → a ≡ b
ended_one e = cc

-- an outside grade is that of a walk that ended
ended_by : {cell : ℕ} (w : Walk) (few : Bool) (score : Float) → grade_from w (cond few TooFew (Score score)) ≡ Outside cell → w ≡ Ended cell
ended_by Going true score e = absurd (let z : ◌≡◌ {A = ℕ} 0 1 = cc in omega arith)
ended_by Going false score e = absurd (let z : ◌≡◌ {A = ℕ} 0 1 = cc in omega arith)
ended_by {cell} (Ended c) few score e = let z : c ≡ cell = cc in ap Ended z

-- ---- a walk that stays once it has ended, ended at its first step that ends
module _ (step : ℕ → Walk → Walk) (stays : (cell k : ℕ) → step k (Ended cell) ≡ Ended cell) where
  -- what n steps make of a walk that is going
  data Steps (n : ℕ) (w : Walk) : Type 0 where
    goes : w ≡ Going → ((k : ℕ) → k < n → step k Going ≡ Going) → Steps n w
    ends : (cell k : ℕ) → w ≡ Ended cell → k < n → step k Going ≡ Ended cell → ((j : ℕ) → j < k → step j Going ≡ Going) → Steps n w

  one_more : (n : ℕ) (w : Walk) → Steps n w → Steps (suc n) (step n w)
  one_more n w (goes e each) = by_step (step n Going) refl
    where
      by_step : (s : Walk) → step n Going ≡ s → Steps (suc n) (step n w)
      by_step Going d = goes (ap (step n) e ∙ d) (λ k h. ⊎_elim (λ p. ap (λ i. step i Going) p ∙ d) (each k) (last_or k n h))
      by_step (Ended cell) d = ends cell n (ap (step n) e ∙ d) (omega arith) d each
  one_more n w (ends cell k e h at before) = ends cell k (ap (step n) e ∙ stays cell n) (omega arith) at before

  steps : (n : ℕ) → Steps n (turns n step Going)
  unfolding turns
  steps zero = goes refl (λ k h. absurd (omega arith))
  steps (suc n) = one_more n (turns n step Going) (steps n)

  all_go : (n : ℕ) → ((k : ℕ) → k < n → step k Going ≡ Going) → turns n step Going ≡ Going
  all_go n each = by_steps (steps n)
    where
      by_steps : Steps n (turns n step Going) → turns n step Going ≡ Going
      by_steps (goes e h) = e
      by_steps (ends cell k e h at before) = absurd (going_not_ended (sym (each k h) ∙ at))

  went : (n : ℕ) → turns n step Going ≡ Going → (k : ℕ) → k < n → step k Going ≡ Going
  went n w = by_steps (steps n)
    where
      by_steps : Steps n (turns n step Going) → (k : ℕ) → k < n → step k Going ≡ Going
      by_steps (goes e h) = h
      by_steps (ends cell k e h at before) = absurd (going_not_ended (sym w ∙ e))

  first_ends : (n k cell : ℕ) → k < n → step k Going ≡ Ended cell → ((j : ℕ) → j < k → step j Going ≡ Going) → turns n step Going ≡ Ended cell
  first_ends n k cell h at before = turns_leave step Going (Ended cell) (stays cell) k n (sym (all_go k before)) at (omega arith)

-- ---- sampled cells, by number and by place
module _ (f : FrameSpec) where
  sampled_at : (x y : ℕ) → x < across f → y < down f → Sampled f (3 * x) (3 * y)
  unfolding across down
  sampled_at x y hx hy = record { third_column = omega arith; third_row = omega arith; column_there = omega arith; row_there = omega arith }

  module _ {column row : ℕ} (s : Sampled f column row) where
    column_is : 3 * (column / 3) ≡ column
    column_is = omega (arith, s.third_column)

    row_is : 3 * (row / 3) ≡ row
    row_is = omega (arith, s.third_row)

    column_across : column / 3 < across f
    unfolding across
    column_across = omega (arith, s.column_there)

    row_down : row / 3 < down f
    unfolding down
    row_down = omega (arith, s.row_there)

module _ (img : Image) (f : FrameSpec) (fit : GeometryFit) where
  -- a cell with a tap outside, the x-th sampled one of the y-th sampled row
  abbrev Off : ℕ → ℕ → Type 0
  Off x y = HasTapOutside img f fit (3 * x) (3 * y)

  off_at : {column row : ℕ} → Sampled f column row → HasTapOutside img f fit column row → Off (column / 3) (row / 3)
  off_at {column} {row} s o =
      subst (λ r. HasTapOutside img f fit (3 * (column / 3)) r) (sym (row_is f s)) (subst (λ c. HasTapOutside img f fit c row) (sym (column_is f s)) o)

  -- ---- the taps of a cell
  tap_stays : (y x cell i : ℕ) → tap_step img f fit y x i (Ended cell) ≡ Ended cell
  tap_stays y x cell i = refl

  cell_steps : (x y : ℕ) → Steps (tap_step img f fit y x) (tap_stays y x) 9 (cell_step img f fit y x Going)
  unfolding cell_step
  cell_steps x y = steps (tap_step img f fit y x) (tap_stays y x) 9

  cell_goes : (x y : ℕ) → (Off x y → ⊥) → cell_step img f fit y x Going ≡ Going
  unfolding cell_step
  cell_goes x y none =
      all_go (tap_step img f fit y x) (tap_stays y x) 9
      (λ i h. ⊎_elim
      (λ t. absurd (none (record { tap = i; nine = h; outside = holds t })))
      (λ e. sym (tap_in img f fit y x i e))
      (either (tap_outside img f fit (3 * x) (3 * y) i)))

  cell_went : (x y : ℕ) → cell_step img f fit y x Going ≡ Going → Off x y → ⊥
  unfolding cell_step
  cell_went x y e o =
      ⊎_elim
      (λ t. going_not_ended (sym (went (tap_step img f fit y x) (tap_stays y x) 9 e o.tap o.nine) ∙ tap_out img f fit y x o.tap t))
      (λ d. refuted _ d o.outside)
      (either (tap_outside img f fit (3 * x) (3 * y) o.tap))

  -- a tap that ends the walk is outside, and ends it with its cell's number
  tap_ends : (x y i cell : ℕ) → i < 9 → tap_step img f fit y x i Going ≡ Ended cell → Off x y × (Ended cell ≡ Ended (number_of f x y))
  tap_ends x y i cell h e =
      ⊎_elim
      (λ t. (record { tap = i; nine = h; outside = holds t }, sym e ∙ tap_out img f fit y x i t))
      (λ d. absurd (going_not_ended (tap_in img f fit y x i d ∙ e)))
      (either (tap_outside img f fit (3 * x) (3 * y) i))

  cell_ended : (x y cell : ℕ) → cell_step img f fit y x Going ≡ Ended cell → Off x y × (Ended cell ≡ Ended (number_of f x y))
  cell_ended x y cell w = by_steps (cell_steps x y)
    where
      by_steps : Steps (tap_step img f fit y x) (tap_stays y x) 9 (cell_step img f fit y x Going) → Off x y × (Ended cell ≡ Ended (number_of f x y))
      by_steps (goes e each) = absurd (going_not_ended (sym e ∙ w))
      by_steps (ends c i e h at before) = tap_ends x y i cell h (at ∙ sym e ∙ w)

  cell_ends : (x y : ℕ) → Off x y → cell_step img f fit y x Going ≡ Ended (number_of f x y)
  cell_ends x y o = by_steps (cell_steps x y)
    where
      by_steps : Steps (tap_step img f fit y x) (tap_stays y x) 9 (cell_step img f fit y x Going) → cell_step img f fit y x Going ≡ Ended (number_of f x y)
      by_steps (goes e each) = absurd (cell_went x y e o)
      by_steps (ends c i e h at before) = e ∙ (tap_ends x y i c h at).1

  -- ---- the columns of a row
  row_steps : (y : ℕ) → Steps (cell_step img f fit y) (cell_stays img f fit y) (across f) (row_step img f fit y Going)
  unfolding row_step
  row_steps y = steps (cell_step img f fit y) (cell_stays img f fit y) (across f)

  row_goes : (y : ℕ) → ((x : ℕ) → x < across f → Off x y → ⊥) → row_step img f fit y Going ≡ Going
  unfolding row_step
  row_goes y none = all_go (cell_step img f fit y) (cell_stays img f fit y) (across f) (λ x h. cell_goes x y (none x h))

  row_went : (y : ℕ) → row_step img f fit y Going ≡ Going → (x : ℕ) → x < across f → Off x y → ⊥
  unfolding row_step
  row_went y e x h = cell_went x y (went (cell_step img f fit y) (cell_stays img f fit y) (across f) e x h)

  row_ends : (x y cell : ℕ) → x < across f → cell_step img f fit y x Going ≡ Ended cell → ((j : ℕ) → j < x → Off j y → ⊥) → row_step img f fit y Going ≡ Ended cell
  unfolding row_step
  row_ends x y cell h at none = first_ends (cell_step img f fit y) (cell_stays img f fit y) (across f) x cell h at (λ j l. cell_goes j y (none j l))

  -- ---- the rows
  walk_steps : Steps (row_step img f fit) (row_stays img f fit) (down f) (walked img f fit)
  unfolding walked
  walk_steps = steps (row_step img f fit) (row_stays img f fit) (down f)

  walk_goes : ((x y : ℕ) → x < across f → y < down f → Off x y → ⊥) → walked img f fit ≡ Going
  unfolding walked
  walk_goes none = all_go (row_step img f fit) (row_stays img f fit) (down f) (λ y h. row_goes y (λ x l. none x y l h))

  walk_went : walked img f fit ≡ Going → (x y : ℕ) → x < across f → y < down f → Off x y → ⊥
  unfolding walked
  walk_went e x y hx hy = row_went y (went (row_step img f fit) (row_stays img f fit) (down f) e y hy) x hx

  walk_ends : (y cell : ℕ) → y < down f → row_step img f fit y Going ≡ Ended cell → ((x j : ℕ) → x < across f → j < y → Off x j → ⊥) → walked img f fit ≡ Ended cell
  unfolding walked
  walk_ends y cell h at none = first_ends (row_step img f fit) (row_stays img f fit) (down f) y cell h at (λ j l. row_goes j (λ x k. none x j k l))

  -- ---- where the whole walk ended
  first_at :
      (x y cell : ℕ) → x < across f → y < down f
      → cell_step img f fit y x Going ≡ Ended cell
      → ((j : ℕ) → j < x → cell_step img f fit y j Going ≡ Going)
      → ((j : ℕ) → j < y → row_step img f fit j Going ≡ Going)
      → FirstOutside img f fit cell
  first_at x y cell hx hy at left above =
      let o = cell_ended x y cell at in
      record {
        column = 3 * x;
        row = 3 * y;
        sampled = sampled_at f x y hx hy;
        outside = o.0;
        none_earlier = λ c r s before off.
            ⊎_elim
            (λ l. row_went (r / 3) (above (r / 3) (omega arith)) (c / 3) (column_across f s) (off_at s off))
            (λ l.
            let e : r / 3 ≡ y = omega (arith, l.0) in
            cell_went (c / 3) y (left (c / 3) (omega (arith, l.1))) (subst (Off (c / 3)) e (off_at s off)))
            before;
        number = ended_one o.1;
      }

  ended_first : (cell : ℕ) → walked img f fit ≡ Ended cell → FirstOutside img f fit cell
  ended_first cell w = by_rows walk_steps
    where
      by_columns : (y : ℕ) → y < down f → row_step img f fit y Going ≡ Ended cell → ((j : ℕ) → j < y → row_step img f fit j Going ≡ Going)
          → Steps (cell_step img f fit y) (cell_stays img f fit y) (across f) (row_step img f fit y Going) → FirstOutside img f fit cell
      by_columns y hy at above (goes e each) = absurd (going_not_ended (sym e ∙ at))
      by_columns y hy at above (ends c x e hx here left) = first_at x y cell hx hy (here ∙ sym e ∙ at) left above

      by_rows : Steps (row_step img f fit) (row_stays img f fit) (down f) (walked img f fit) → FirstOutside img f fit cell
      by_rows (goes e each) = absurd (going_not_ended (sym e ∙ w))
      by_rows (ends c y e hy at above) = by_columns y hy (at ∙ sym e ∙ w) above (row_steps y)

  first_ended : (cell : ℕ) → FirstOutside img f fit cell → walked img f fit ≡ Ended cell
  first_ended cell o =
      let s = o.sampled in
      let x = o.column / 3 in
      let y = o.row / 3 in
      let at : row_step img f fit y Going ≡ Ended (number_of f x y) =
      row_ends x y (number_of f x y) (column_across f s) (cell_ends x y (off_at s o.outside))
      (λ j l. o.none_earlier (3 * j) (3 * y) (sampled_at f j y (omega (arith, column_across f s)) (row_down f s))
      (inr (row_is f s, omega (arith, column_is f s)))) in
      let whole : walked img f fit ≡ Ended (number_of f x y) =
      walk_ends y (number_of f x y) (row_down f s) at
      (λ i j h l. o.none_earlier (3 * i) (3 * j) (sampled_at f i j h (omega (arith, row_down f s))) (inl (omega (arith, row_is f s)))) in
      whole ∙ ap Ended (ap (λ r. r * cols f + 3 * x) (row_is f s) ∙ ap (λ c. o.row * cols f + c) (column_is f s) ∙ sym o.number)

  -- ---- the grade of the walk
  grade_ended : (cell : ℕ) → grade_of img f fit ≡ Outside cell → walked img f fit ≡ Ended cell
  unfolding grade_of
  grade_ended cell g = ended_by (walked img f fit) (ltb (down f * across f) 16) (fisher img f fit (down f * across f)) g

  pub outside_first : (cell : ℕ) → grade_of img f fit ≡ Outside cell → FirstOutside img f fit cell
  outside_first cell g = ended_first cell (grade_ended cell g)

  pub first_outside : (cell : ℕ) → FirstOutside img f fit cell → grade_of img f fit ≡ Outside cell
  first_outside cell o = sym (grade_out img f fit (sym (first_ended cell o)))

pub outside_is : OutsideIs
outside_is img f fit cell = (outside_first img f fit cell, first_outside img f fit cell)

pub one_first : OneFirst
one_first img f fit a b o p = ended_one (sym (first_ended img f fit a o) ∙ first_ended img f fit b p)

pub number_tells : NumberTells
number_tells img f fit cell o =
    let h = o.sampled.column_there in
    (ap (λ n. n / cols f) o.number ∙ digits_div o.row h, ap (λ n. n % cols f) o.number ∙ digits_mod o.row h)

pub some_outside : SomeOutside
some_outside img f fit column row s o = by_walk (walked img f fit) refl
  where
    by_walk : (w : Walk) → walked img f fit ≡ w → (cell : ℕ) × (grade_of img f fit ≡ Outside cell)
    by_walk Going e = absurd (walk_went img f fit e (column / 3) (row / 3) (column_across f s) (row_down f s) (off_at img f fit s o))
    by_walk (Ended cell) e = (cell, sym (grade_out img f fit (sym e)))

pub none_outside : NoneOutside
unfolding sampled_cells
none_outside img f fit none =
    let e : Going ≡ walked img f fit = sym (walk_goes img f fit (λ x y hx hy o. none (3 * x) (3 * y) (sampled_at f x y hx hy) o)) in
    (λ h. sym (pick_yes _ _ _ (lt-ltb _ _ h) ∙ grade_in img f fit e), λ h. sym (pick_no _ _ _ (le-ltb _ _ h) ∙ grade_in img f fit e))
