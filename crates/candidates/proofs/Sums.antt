-- Sums over pixels and over patches. Assumes nothing.
use Prim.Native.Nat.{ℕ, zero, suc, ◌*◌, ◌≤◌}
use mathlib.Core.Path.{◌≡◌, sym, subst}
use mathlib.Core.Logic.{⊎_elim}
use mathlib.Core.List.{List}
use native.Mathlib.Omega.{arith}
use Rattle.blobs.specs.Patches.{total, Marks, one, ink}
use Rattle.blobs.proofs.Sums.{total_most, total_below}

pub marks_few : (c : ℕ → ℕ) (P : ℕ → Type 0) → Marks c P → (q : ℕ) → c q ≤ 1
marks_few c P m q = ⊎_elim (λ a. let e : c q ≡ 1 = a.0 in omega arith) (λ a. let e : c q ≡ 0 = a.0 in omega arith) (m q)

-- where f q is at most q
pub total_capped : (f c : ℕ → ℕ) (n : ℕ) → ((q : ℕ) → c q ≤ 1) → ((q : ℕ) → f q ≤ q) → total f c n ≤ n * n
total_capped f c n h g = total_most f c n n h (λ q l. let x : f q ≤ q = g q in omega arith)

-- no more pixels are dark than there are
pub ink_few : (m : List ℕ) (n : ℕ) → total one (ink m) n ≤ n
ink_few m n = total_below (ink m) n (λ q l. omega arith)

pub total_grows : (f : ℕ → ℕ) (i n : ℕ) → i ≤ n → total f one i ≤ total f one n
unfolding total
total_grows f i zero h = let e : i ≡ 0 = omega arith in subst (λ z. total f one z ≤ 0) (sym e) (omega arith)
total_grows f i (suc n) h = ⊎_elim
    (λ e. subst (λ z. total f one i ≤ total f one z) e (omega arith))
    (λ l. let a : total f one i ≤ total f one n = total_grows f i n (omega arith) in omega arith)
    (native.Mathlib.Nat.eq-or-lt_of_le h)
