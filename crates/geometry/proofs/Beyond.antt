-- Counts of positions beyond the picture's edge: what they come to, and the theorems of specs/Beyond. Assumes nothing.
use Prim.Native.Nat.{ℕ, zero, suc, ◌+◌, ◌*◌, ◌≤◌, ◌<◌}
use mathlib.Core.Path.{◌≡◌, refl, ap, ◌∙◌}
use mathlib.Core.Bool.{Bool, true, false, cond, not}
use mir.Val.{bool_byte}
use mathlib.Core.Logic.{⊎_elim}
use native.Mathlib.Nat.{zero-mul, suc-mul, mul-one}
use native.Mathlib.Omega.{arith}
use Rattle.base.specs.Loops.{turns}
use Rattle.base.proofs.Arith.{last_or}
use Rattle.base.proofs.Turns.{turns_step}
use Rattle.frame.specs.Image.{Image}
use Rattle.frame.specs.declared.FrameSpec.{FrameSpec}
use Rattle.fit.specs.declared.GeometryFit.{GeometryFit}
use Rattle.sampling.specs.Reading.{sample_at}
use Rattle.geometry.specs.Warp.{inside_at, count_beyond, row_beyond, beyond}
use Rattle.geometry.specs.Beyond.{EachTells, NoneBeyond, MostBeyond, AllBeyond}

-- ---- numbers g 0, g 1, .. added up

module _ (g : ℕ → ℕ) where
  abbrev added : ℕ → ℕ
  added n = turns n (λ k m. m + g k) 0

  added_most : (c : ℕ) → ((k : ℕ) → g k ≤ c) → (n : ℕ) → added n ≤ n * c
  unfolding turns
  added_most c h zero = omega arith
  added_most c h (suc n) = omega (arith, added_most c h n, h n, suc-mul n c)

  added_none : (n : ℕ) → added n ≡ 0 → (k : ℕ) → k < n → g k ≡ 0
  unfolding turns
  added_none zero e k h = absurd (omega arith)
  added_none (suc n) e k h = ⊎_elim (λ i. ap g i ∙ (let z : g n ≡ 0 = omega arith in z)) (λ l. added_none n (omega arith) k l) (last_or k n h)

  added_each : (c n : ℕ) → ((k : ℕ) → k < n → g k ≡ c) → added n ≡ n * c
  unfolding turns
  added_each c zero h = omega (arith, zero-mul c)
  added_each c (suc n) h = omega (arith, added_each c n (λ k l. h k (omega arith)), h n (omega arith), suc-mul n c)

-- ---- a row, and the whole image

one_most : (b : Bool) → cond b 0 1 ≤ 1
one_most true = omega arith
one_most false = omega arith

by_cases : (b : Bool) → ◌≡◌ {A = ℕ} (bool_byte (not b)) (cond b 0 1)
by_cases true = refl
by_cases false = refl

one_none : (b : Bool) → ◌≡◌ {A = ℕ} (cond b 0 1) 0 → b ≡ true
one_none true e = refl
one_none false e = absurd (omega arith)

module _ (img : Image) (fit : GeometryFit) (y : ℕ) where
  abbrev one : ℕ → ℕ
  one x = cond (inside_at img fit x y) 0 1

  -- of the first n pixels of the row
  pub count_most : (n : ℕ) → turns n (count_beyond img fit y) 0 ≤ n
  count_most n = omega (arith, added_most one 1 (λ x. one_most (inside_at img fit x y)) n, mul-one n)

  -- with the pixel in column x
  pub count_one : (x : ℕ) {n : ℕ} {b : Bool} → b ≡ inside_at img fit x y → n ≡ turns x (count_beyond img fit y) 0
      → n + bool_byte (not b) ≡ turns (x + 1) (count_beyond img fit y) 0
  count_one x {n} {b} h e = ap (λ k. n + k) (by_cases b ∙ ap (λ b. cond b 0 1) h) ∙ turns_step _ _ x e

  pub row_most : (f : FrameSpec) → row_beyond img f fit y ≤ f.width
  unfolding row_beyond
  row_most f = count_most f.width

module _ (img : Image) (f : FrameSpec) (fit : GeometryFit) where
  -- of the first n rows
  pub rows_most : (n : ℕ) → turns n (λ y m. m + row_beyond img f fit y) 0 ≤ n * f.width
  rows_most n = added_most (row_beyond img f fit) f.width (λ y. row_most img fit y f) n

  none_inside : beyond img f fit ≡ 0 → EachTells img f fit true
  unfolding beyond row_beyond inside_at sample_at
  none_inside e x y hx hy =
      one_none _ (added_none (one img fit y) f.width (added_none (row_beyond img f fit) f.height e y hy) x hx)

  inside_none : EachTells img f fit true → beyond img f fit ≡ 0
  unfolding beyond row_beyond inside_at sample_at
  inside_none h =
      added_each (row_beyond img f fit) 0 f.height
      (λ y hy. added_each (one img fit y) 0 f.width (λ x hx. ap (λ b. cond b 0 1) (h x y hx hy)) ∙ omega arith)
      ∙ omega arith

pub none_beyond : NoneBeyond
none_beyond img f fit = (none_inside img f fit, inside_none img f fit)

pub most_beyond : MostBeyond
unfolding beyond
most_beyond img f fit = rows_most img f fit f.height

pub all_beyond : AllBeyond
unfolding beyond row_beyond inside_at sample_at
all_beyond img f fit h =
    added_each (row_beyond img f fit) f.width f.height
    (λ y hy. added_each (one img fit y) 1 f.width (λ x hx. ap (λ b. cond b 0 1) (h x y hx hy)) ∙ mul-one f.width)
