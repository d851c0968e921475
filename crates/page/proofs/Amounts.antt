-- Which amounts can be printed. Assumes nothing.
use mathlib.Core.Path.{◌≡◌, refl, sym, ap, ◌∙◌}
use mathlib.Core.Bool.{true, false, not, ◌&&◌, true≢false}
use mathlib.Core.Logic.{⊎_elim}
use Prim.Native.Nat.{ℕ, ◌+◌, ◌*◌, ◌/◌, ◌≤◌, ◌<◌}
use native.Mathlib.Nat.{mul_assoc, mul_right_comm, mul-le-mul_right, mul-one, le-div_iff_mul-le}
use native.Mathlib.Omega.{arith}
use borrow.Author.Tests.{leb-true, ltb-true, ltb-false, lt-leb}
use lib.Dec.{leb}
use lib.IntN.{ℤ, pos}
use lib.Ieee.{Float, nan, inf, fin, up, down, lt, of_int, round}
use lib.Ieee.Fits.{down_pos}
use Rattle.base.proofs.Arith.{le_or_lt}
use Rattle.base.proofs.Tests.{and_right, not_first, not_second}
use Rattle.float.specs.Floats.{f64}
use Rattle.float.proofs.Halves.{double_pos}
use Rattle.page.specs.Amounts.{units_of, finite, printable}
use Rattle.page.specs.Steps.{Narrow}
use Rattle.page.specs.Steps.Narrow.{narrow}

-- 100000, as a float: 3125 · 2^5
abbrev limit : Float
limit = fin false 3125 (pos 5)

-- ---- from 100000 on an amount is too wide
wide : (m : ℕ) (e : ℤ) (d : ℕ) → 100000 * down e ≤ m * up e → 100000 * d ≤ (m * up e * d * 2 + down e) / (down e * 2)
wide m e d h =
    let a : 100000 * down e * d ≤ m * up e * d = mul-le-mul_right d h in
    let b : 100000 * d * (down e * 2) ≡ 100000 * down e * d * 2 = sym (mul_assoc (100000 * d) (down e) 2) ∙ ap (λ z. z * 2) (mul_right_comm 100000 d (down e)) in
    (le-div_iff_mul-le (double_pos (down e) (down_pos e))).1 (omega arith)

module _ (d most : ℕ) (W : most < 100000 * d) where
  -- what can be printed is narrow
  pub printable_narrow : (x : Float) → printable d most x ≡ true → Narrow x
  unfolding printable finite units_of
  printable_narrow nan h = absurd (true≢false (sym h))
  printable_narrow (inf s) h = absurd (true≢false (sym h))
  printable_narrow (fin s m e) h = ⊎_elim
      (λ k. absurd (
      let a : (m * up e * d * 2 + down e) / (down e * 2) ≤ most = leb-true _ most (and_right (not (lt (fin s m e) (f64 0))) _ h) in
      let b : 100000 * d ≤ (m * up e * d * 2 + down e) / (down e * 2) = wide m e d k in
      omega arith
      ))
      (λ k. narrow s m e refl k)
      (le_or_lt (100000 * down e) (m * up e))

  -- what is not below 100000 cannot be printed
  pub not_narrow : (x : Float) → lt x limit ≡ false → false ≡ printable d most x
  unfolding printable finite units_of lt
  not_narrow nan h = refl
  not_narrow (inf s) h = refl
  not_narrow (fin true m e) h =
      absurd (
      let a : m * up e * 1 + 100000 * down e ≤ 0 = ltb-false 0 (m * up e * 1 + 100000 * down e) h in
      let b : 0 < down e = down_pos e in
      omega arith
      )
  not_narrow (fin false m e) h =
      let a : 100000 * down e ≤ m * up e * 1 = ltb-false (m * up e * 1) (100000 * down e) h in
      let b : m * up e * 1 ≡ m * up e = mul-one (m * up e) in
      let c : 100000 * d ≤ (m * up e * d * 2 + down e) / (down e * 2) = wide m e d (omega arith) in
      sym (not_second (true && not (lt (fin false m e) (f64 0))) (lt-leb _ most (omega arith)))

-- what is below 0 cannot be printed
pub not_negative : (d most : ℕ) (x : Float) → lt x (f64 0) ≡ true → false ≡ printable d most x
unfolding printable
not_negative d most x h = sym (not_first (leb (units_of d x) most) (not_second (finite x) (ap not h)))

-- between the two the amount decides
pub narrow_below : (x : Float) → lt x (f64 0) ≡ false → lt x limit ≡ true → Narrow x
unfolding lt of_int round
narrow_below nan h k = absurd (true≢false (sym k))
narrow_below (inf true) h k = absurd (true≢false h)
narrow_below (inf false) h k = absurd (true≢false (sym k))
narrow_below (fin true m e) h k =
    let a : m * up e * 1 + 0 * down e ≤ 0 = ltb-false 0 (m * up e * 1 + 0 * down e) h in
    let b : m * up e * 1 ≡ m * up e = mul-one (m * up e) in
    let c : 0 < down e = down_pos e in
    narrow true m e refl (omega arith)
narrow_below (fin false m e) h k =
    let a : m * up e * 1 < 100000 * down e = ltb-true (m * up e * 1) (100000 * down e) k in
    let b : m * up e * 1 ≡ m * up e = mul-one (m * up e) in
    narrow false m e refl (omega arith)

pub printable_is : (d most : ℕ) (x : Float) → Narrow x → lt x (f64 0) ≡ false → leb (units_of d x) most ≡ printable d most x
unfolding printable finite
printable_is d most x (narrow s m e p k) h = sym (ap (λ b. b && leb (units_of d x) most) (ap (λ y. finite y && not (lt x (f64 0))) p ∙ ap not h))
