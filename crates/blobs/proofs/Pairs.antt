-- Of pixels no two of which share an edge there are at most half as many as pixels, rounded up: the mask is covered by pairs of rows, and a single row by pairs of pixels.
-- Assumes nothing.
use Prim.Native.Nat.{ℕ, zero, suc, ◌+◌, ◌*◌, ◌/◌, ◌%◌, ◌≤◌, ◌<◌}
use native.Mathlib.Nat.{add-mul, mul-add, one-mul, add-zero, zero-mul, suc-mul, mul-one, add-suc}
use native.Mathlib.Numerals.{add-one}
use native.Mathlib.Decide.{ℕ_discrete}
use native.Mathlib.Omega.{arith}
use mathlib.Core.Path.{◌≡◌, sym, ap, ap₂, ◌∙◌, subst}
use mathlib.Core.List.{List}
use mathlib.Core.Logic.{◌⊎◌, inl, inr}
use lib.Arith.{digits_mod}
use lib.ListN.{length}
use Rattle.blobs.specs.Patches.{Touch, First, total, one}
use Rattle.blobs.specs.Patches.Touch.{right, left, under, over}
use Rattle.blobs.specs.Patches.Joined.{here, step}
use Rattle.blobs.proofs.Grid.{touch_back}
use Rattle.blobs.proofs.Sums.{total_below, total_add}

pub total_split : (c : ℕ → ℕ) (a b : ℕ) → total one c (a + b) ≡ total one c a + total one (λ q. c (a + q)) b
unfolding total
total_split c a zero = rw (add-zero, add-zero)
total_split c a (suc b) = let h = total_split c a b in rw (add-suc) (omega (arith, h))

-- of two neighbours in a row one counts at most
row_half : (c : ℕ → ℕ) (n : ℕ) → ((q : ℕ) → q < n → c q ≤ 1) → ((q : ℕ) → q + 1 < n → c q + c (q + 1) ≤ 1) → 2 * total one c n ≤ n + 1
unfolding total
row_half c zero f h = omega arith
row_half c (suc zero) f h = omega (arith, f 0 (omega arith), mul-one (c 0))
row_half c (suc (suc n)) f h =
    let a : 2 * total one c n ≤ n + 1 = row_half c n (λ q l. f q (omega arith)) (λ q l. h q (omega arith)) in
    let b : c n + c (n + 1) ≤ 1 = h n (omega arith) in
    omega (arith, mul-one (c n), mul-one (c (suc n)), ap c (add-one n))

module _ (c : ℕ → ℕ) (w : ℕ) (wide : 0 < w) (f : (q : ℕ) → c q ≤ 1) (apart : (p q : ℕ) → Touch w p q → c p + c q ≤ 1) where
  -- of two rows at most as many pixels as are in one
  rows_two : (k : ℕ) → total one c (k * (w + w)) ≤ k * w
  unfolding total
  rows_two zero = rw (zero-mul, zero-mul) (omega arith)
  rows_two (suc k) =
      let a : ℕ = k * (w + w) in
      let h : total one c a ≤ k * w = rows_two k in
      let s₁ : total one c (a + (w + w)) ≡ total one c a + total one (λ q. c (a + q)) (w + w) = total_split c a (w + w) in
      let s₂ : total one (λ q. c (a + q)) (w + w) ≡ total one (λ q. c (a + q)) w + total one (λ q. c (a + (w + q))) w = total_split (λ q. c (a + q)) w w in
      let s₃ : total one (λ q. c (a + q) + c (a + (w + q))) w ≡ total one (λ q. c (a + q)) w + total one (λ q. c (a + (w + q))) w = total_add (λ q. c (a + q)) (λ q. c (a + (w + q))) w in
      let s₄ : total one (λ q. c (a + q) + c (a + (w + q))) w ≤ w = total_below (λ q. c (a + q) + c (a + (w + q))) w (λ q l. apart (a + q) (a + (w + q)) (under (omega arith))) in
      rw (suc-mul, suc-mul) (omega arith)

  row_one : (k : ℕ) → 2 * total one (λ q. c (k * (w + w) + q)) w ≤ w + 1
  row_one k =
      let a : ℕ = k * (w + w) in
      row_half (λ q. c (a + q)) w (λ q l. f (a + q)) (λ q l. apart (a + q) (a + (q + 1)) (right (omega arith) (col q l)))
    where
      col : (q : ℕ) → q + 1 < w → (k * (w + w) + q) % w + 1 < w
      col q l =
          let e : k * (w + w) ≡ (k + k) * w = mul-add k w w ∙ sym (add-mul k k w) in
          rw (e, digits_mod (k + k) {m = w} {r = q} (omega arith)) l

  few_rows : (h k : ℕ) → (h ≡ k + k) ⊎ (h ≡ k + k + 1) → 2 * total one c (h * w) ≤ h * w + 1
  few_rows h k (inl e) =
      let s : total one c (h * w) ≡ total one c (k * (w + w)) = ap (total one c) (ap (λ (z : ℕ). z * w) e ∙ add-mul k k w ∙ sym (mul-add k w w)) in
      omega (arith, rows_two k, ap (λ (z : ℕ). z * w) e, add-mul k k w)
  few_rows h k (inr e) =
      let z : h * w ≡ k * (w + w) + w = ap (λ (z : ℕ). z * w) e ∙ add-mul (k + k) 1 w ∙ ap₂ ◌+◌ (add-mul k k w ∙ sym (mul-add k w w)) (one-mul w) in
      let s : total one c (h * w) ≡ total one c (k * (w + w)) + total one (λ q. c (k * (w + w) + q)) w = ap (total one c) z ∙ total_split c (k * (w + w)) w in
      omega (arith, rows_two k, row_one k, mul-add k w w)

  pub few : (h : ℕ) → 2 * total one c (h * w) ≤ h * w + 1
  few h = go (ℕ_discrete h (h / 2 + h / 2))
    where
      go : Dec (h ≡ h / 2 + h / 2) → 2 * total one c (h * w) ≤ h * w + 1
      go (yes e) = few_rows h (h / 2) (inl e)
      go (no o) = few_rows h (h / 2) (inr (omega arith))

-- two first pixels share no edge
pub firsts_apart : {m : List ℕ} {w p q : ℕ} → 0 < w → First m w p → First m w q → Touch w p q → ⊥
firsts_apart {m} {w} {p} {q} o f g t =
    let a : p ≤ q = f.1 q (step (here f.0) t g.0) in
    let b : q ≤ p = g.1 p (step (here g.0) (touch_back t) f.0) in
    no_self t a b
  where
    no_self : Touch w p q → p ≤ q → q ≤ p → ⊥
    no_self (right e l) a b = omega arith
    no_self (left e l) a b = omega arith
    no_self (under e) a b = omega arith
    no_self (over e) a b = omega arith

-- so many first pixels there are at most
pub firsts_few : (m : List ℕ) (w h : ℕ) (c : ℕ → ℕ) → 0 < w → length m ≡ h * w → ((q : ℕ) → c q ≤ 1) → ((q : ℕ) → c q ≡ 1 → First m w q)
    → 2 * total one c (length m) ≤ length m + 1
firsts_few m w h c o z f g = subst (λ (n : ℕ). 2 * total one c n ≤ n + 1) (sym z) (few c w o f apart h)
  where
    go : (p q : ℕ) → Touch w p q → Dec (c p ≡ 1) → Dec (c q ≡ 1) → c p + c q ≤ 1
    go p q t (yes e) (yes e') = absurd (firsts_apart o (g p e) (g q e') t)
    go p q t (yes e) (no n) = omega (arith, f p, f q)
    go p q t (no n) d = omega (arith, f p, f q)

    apart : (p q : ℕ) → Touch w p q → c p + c q ≤ 1
    apart p q t = go p q t (ℕ_discrete (c p) 1) (ℕ_discrete (c q) 1)
