-- The members of a list. Assumes nothing.
use Prim.Native.Nat.{ℕ, zero, suc, ◌<◌}
use mathlib.Core.Path.{◌≡◌, refl, sym}
use mathlib.Core.Logic.{◌⊎◌, inl, inr}
use mathlib.Core.List.{List, [], ◌∷◌}
use native.Mathlib.Omega.{arith}
use lib.ListN.{length, get_or}
use Rattle.base.specs.Loops.{table}

abbrev pub In : {A : Type 0} → A → List A → Type 0
In x [] = ⊥
In x (y ∷ l) = (x ≡ y) ⊎ In x l

-- by their places
pub in_place : {A : Type 0} (l : List A) (d x : A) → In x l → (k : ℕ) × (k < length l) × (get_or l k d ≡ x)
in_place [] d x h = absurd h
in_place (y ∷ l) d x (inl e) = (zero, omega arith, sym e)
in_place (y ∷ l) d x (inr h) = let r = in_place l d x h in (suc r.0, omega (arith, r.1), r.2)

pub place_in : {A : Type 0} (l : List A) (d : A) (k : ℕ) → k < length l → In (get_or l k d) l
place_in [] d k h = absurd (omega arith)
place_in (y ∷ l) d zero h = inl refl
place_in (y ∷ l) d (suc k) h = inr (place_in l d k (omega arith))

-- of a table
pub in_table : {A : Type 0} (f : ℕ → A) (n : ℕ) (x : A) → In x (table f n) → (k : ℕ) × (k < n) × (f k ≡ x)
unfolding table
in_table f zero x h = absurd h
in_table f (suc n) x (inl e) = (zero, omega arith, sym e)
in_table f (suc n) x (inr h) = let r = in_table (λ k. f (suc k)) n x h in (suc r.0, omega (arith, r.1), r.2)

pub table_in : {A : Type 0} (f : ℕ → A) (n k : ℕ) → k < n → In (f k) (table f n)
unfolding table
table_in f zero k h = absurd (omega arith)
table_in f (suc n) zero h = inl refl
table_in f (suc n) (suc k) h = inr (table_in (λ k. f (suc k)) n k (omega arith))
