-- A mask has at most half as many patches as pixels, rounded up. Assumes nothing.
use Prim.Native.Nat.{ℕ, zero, suc, ◌+◌, ◌*◌, ◌-◌, ◌≤◌, ◌<◌}
use native.Mathlib.Nat.{mul-one}
use native.Mathlib.Omega.{arith}
use mathlib.Core.Path.{◌≡◌, refl, sym, ap, subst}
use mathlib.Core.Bool.{false, cond}
use mathlib.Core.List.{List}
use mathlib.Core.Logic.{⊎_elim}
use lib.Dec.{eqb}
use lib.ListN.{length, get_or}
use borrow.Author.Tests.{eqb-true, eqb-false}
use Rattle.base.proofs.Arith.{last_or, at_most}
use Rattle.base.proofs.Pick.{cond_elim}
use Rattle.blobs.specs.Patches.{First, PatchCount, total, one}
use Rattle.blobs.proofs.Grid.{dark_inside}
use Rattle.blobs.proofs.Pairs.{total_split, firsts_few}

-- ---- 1 for the numbers f 0, .. f (n - 1), 0 for the others
module _ (f : ℕ → ℕ) where
  unfoldable mark : ℕ → ℕ → ℕ
  mark zero q = 0
  mark (suc n) q = cond (eqb (f n) q) 1 (mark n q)

  mark_most : (n q : ℕ) → mark n q ≤ 1
  unfolding mark
  mark_most zero q = omega arith
  mark_most (suc n) q = cond_elim (λ z. z ≤ 1) (eqb (f n) q) 1 (mark n q) (λ e. omega arith) (λ e. mark_most n q)

  mark_found : (n q : ℕ) → mark n q ≡ 1 → (j : ℕ) × (j < n) × (f j ≡ q)
  unfolding mark
  mark_found zero q e = absurd (omega arith)
  mark_found (suc n) q e =
      cond_elim (λ z. z ≡ 1 → (j : ℕ) × (j < suc n) × (f j ≡ q)) (eqb (f n) q) 1 (mark n q)
      (λ t h. (n, omega arith, eqb-true (f n) q t))
      (λ t h. let r = mark_found n q h in (r.0, omega (arith, r.1), r.2)) e

  mark_at : (n j : ℕ) → j < n → mark n (f j) ≡ 1
  unfolding mark
  mark_at zero j l = absurd (omega arith)
  mark_at (suc n) j l =
      cond_elim (λ z. z ≡ 1) (eqb (f n) (f j)) 1 (mark n (f j)) (λ t. refl)
      (λ t. ⊎_elim (λ e. absurd (same t e)) (λ r. mark_at n j r) (last_or j n l))
    where
      same : eqb (f n) (f j) ≡ false → j ≡ n → ⊥
      same t e = eqb-false (f n) (f j) t (ap f (sym e))

-- ---- rising numbers below z that c counts: the sum of c is as many at least
total_up : (c : ℕ → ℕ) (a b : ℕ) → a ≤ b → total one c a ≤ total one c b
total_up c a b l = let e : a + (b - a) ≡ b = omega arith in omega (arith, total_split c a (b - a), ap (total one c) e)

module _ (c f : ℕ → ℕ) (n : ℕ) (rises : (i j : ℕ) → i < j → j < n → f i < f j) (counts : (j : ℕ) → j < n → c (f j) ≡ 1) where
  total_to : (j : ℕ) → j < n → suc j ≤ total one c (suc (f j))
  unfolding total
  total_to zero l = omega (arith, mul-one (c (f 0)), counts 0 l)
  total_to (suc j) l =
      omega (
        arith,
        mul-one (c (f (suc j))),
        counts (suc j) l,
        total_to j (omega arith),
        total_up c (suc (f j)) (f (suc j)) (rises j (suc j) (omega arith) l),
      )

  total_many : (z : ℕ) → ((j : ℕ) → j < n → f j < z) → n ≤ total one c z
  total_many z below = at_most n (total one c z) (λ j l. omega (arith, total_to j l, total_up c (suc (f j)) z (below j l)))

-- ---- the patches
pub count_few : {m : List ℕ} {w n : ℕ} (h : ℕ) → 0 < w → length m ≡ h * w → PatchCount m w n → 2 * n ≤ length m + 1
count_few {m} {w} {n} h o e a =
    omega (
      arith,
      total_many (mark f n) f n a.ordered (mark_at f n) (length m) (λ j l. dark_inside m (f j) (a.first j l).0),
      firsts_few m w h (mark f n) o e (mark_most f n) is_first,
    )
  where
    f : ℕ → ℕ
    f j = get_or a.firsts j 0

    is_first : (q : ℕ) → mark f n q ≡ 1 → First m w q
    is_first q h = let r = mark_found f n q h in subst (First m w) r.2 (a.first r.0 r.1)
