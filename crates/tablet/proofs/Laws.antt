-- Laws of results in slices. Assumes nothing.
use mathlib.Core.Path.{◌≡◌, refl, ap}
use mathlib.Core.Bool.{Bool, true, false, cond, ◌&&◌}
use mathlib.Core.List.{List, [], ◌∷◌, ◌++◌}
use Prim.Native.Nat.{ℕ, zero, suc, ◌*◌, ◌^◌, ◌≤◌, ◌<◌}
use native.Mathlib.Nat.{mul-le-mul}
use native.Mathlib.Omega.{arith}
use lib.Dec.{leb}
use lib.ListN.{length, set, length-append, length-drop}
use Rattle.frame.specs.Refusals.{number, Check, check, lowest_of}
use Rattle.frame.specs.declared.refusals.Refusal.{Refusal}
use Rattle.tablet.specs.Slices.{written, answered, Answer, told}

pub length_written : {A : Type 0} (v l : List A) → length v ≤ length l → length (written v l) ≡ length l
unfolding written
length_written v l h = simp (length-append, length-drop) (omega arith)

-- one value more, stored behind those that were written
pub written_next : {A : Type 0} (v l : List A) (b : A) → length v < length l → set (written v l) (length v) b ≡ written (v ++ (b ∷ [])) l
unfolding written
written_next [] [] b h = absurd (omega arith)
written_next [] (x ∷ l) b h = refl
written_next (a ∷ v) [] b h = absurd (omega arith)
written_next (a ∷ v) (x ∷ l) b h = ap (λ r. a ∷ r) (unfold written in written_next v l b (omega arith))

-- a refused call's slice
pub answered_refused : {A : Type 0} {n : ℕ} (v l : List A) → (n ≡ 0 → ⊥) → l ≡ answered n v l
answered_refused {n = zero} v l h = absurd (h refl)
answered_refused {n = suc n} v l h = refl

-- ---- one more test among others: where it fails it changes nothing, where it holds no later one counts

module _ (r : Refusal) (s : Bool) (q : List Check) where
  pub lowest_without : (p : List Check) → s ≡ false → lowest_of (p ++ (check r s ∷ q)) ≡ lowest_of (p ++ q)
  unfolding lowest_of
  lowest_without [] e = rw e
  lowest_without (c ∷ p) e = ap (cond c.holds (number c.refusal)) (lowest_without p e)

-- a call with the number n of its tests
pub numbered : {A : Type 0} (tests : List Check) (v l : List A) (n : ℕ) → n ≡ lowest_of tests → (n ≡ 0 → ⊥) → Answer tests v l n l
numbered tests v l n e h = record { number = e; result = answered_refused v l h }

-- counts after a call with the number n: not told by 1 to 6, else told
module _ {A : Type 0} (n : ℕ) (v l : List A) where
  pub told_not : leb 1 n && leb n 6 ≡ true → l ≡ told n v l
  unfolding told
  told_not e = rw e

  pub told_all : leb 1 n && leb n 6 ≡ false → written v l ≡ told n v l
  unfolding told
  told_all e = rw e

-- ---- three bytes a pixel fit a number of 64 bits

pub triple : {a : ℕ} → a ≤ 4096 → 3 * a < 2 ^ 64
triple h = omega arith

pub triple_product : {a b : ℕ} → a ≤ 4096 → b ≤ 4096 → 3 * a * b < 2 ^ 64
triple_product {a} {b} h k = let x : 3 * a ≤ 12288 = omega arith in omega (arith, mul-le-mul x k)
