-- Laws of `filled`, by which a loop writes a plane, and of `by_row`. Assumes nothing.
use mathlib.Core.Path.{◌≡◌, refl, sym, ap, ◌∙◌, subst⁻¹}
use mathlib.Core.List.{List, ◌∷◌}
use mathlib.Core.Logic.{⊎_elim}
use Prim.Native.Nat.{ℕ, zero, suc, ◌+◌, ◌*◌, ◌/◌, ◌≤◌, ◌<◌}
use native.Mathlib.Omega.{arith}
use lib.ListN.{length, get_or, set, replicate, length-set}
use lib.Seq.{get_or-set_same, get_or-set_other, ext_get_or}
use Rattle.base.specs.Loops.{turns, fill_at, filled, by_row}
use Rattle.base.proofs.Turns.{turns_begin, turns_step, turns_keep, turns_cong}
use Rattle.base.proofs.Arith.{le_or_lt}
use lib.Arith.{digits_div, digits_mod}
use native.Mathlib.Nat.{eq-or-lt_of_le}

module _ {A : Type 0} (f : ℕ → A) (l : List A) where
  -- a loop's first head, a turn, and the end
  pub filled_begin : l ≡ filled f 0 l
  unfolding filled
  filled_begin = turns_begin _ _

  pub filled_step : (n : ℕ) (v : A) {b : List A} → b ≡ filled f n l → v ≡ f n → set b n v ≡ filled f (n + 1) l
  unfolding filled
  filled_step n v {b} e h = ap (set b n) h ∙ turns_step _ _ n e

  pub filled_end : (k n : ℕ) {b : List A} → b ≡ filled f k l → k ≡ n → b ≡ filled f n l
  filled_end k n e h = e ∙ ap (λ i. filled f i l) h

  pub length_filled : (n : ℕ) → length (filled f n l) ≡ length l
  unfolding filled
  length_filled n = turns_keep (fill_at f) l (λ b. length b ≡ length l) refl (λ k b e. length-set b k (f k) ∙ e) n

  pub filled_suc : (n : ℕ) → filled f (suc n) l ≡ set (filled f n l) n (f n)
  unfolding filled turns
  filled_suc n = refl

  -- past the table nothing changes
  pub filled_past : (n k : ℕ) (d : A) → n ≤ k → get_or (filled f n l) k d ≡ get_or l k d
  filled_past zero k d h = ap (λ b. get_or b k d) (sym filled_begin)
  filled_past (suc n) k d h =
      ap (λ b. get_or b k d) (filled_suc n)
      ∙ get_or-set_other (filled f n l) n k (f n) d (λ e. omega arith)
      ∙ filled_past n k d (omega arith)

  -- within it, the table
  pub filled_at : (n k : ℕ) (d : A) → k < n → n ≤ length l → get_or (filled f n l) k d ≡ f k
  filled_at zero k d h r = absurd (omega arith)
  filled_at (suc n) k d h r =
      let g = filled f n l in
      let p : n < length g = omega (arith, length_filled n) in
      let q : k ≤ n = omega arith in
      ap (λ b. get_or b k d) (filled_suc n)
      ∙ ⊎_elim
      (λ e. subst⁻¹ (λ i. get_or (set g n (f n)) i d ≡ f i) e (get_or-set_same g n (f n) d p))
      (λ b. get_or-set_other g n k (f n) d (λ e. omega arith) ∙ filled_at n k d b (omega arith))
      (eq-or-lt_of_le q)

  -- a list that agrees is the table's
  pub filled_is : (n : ℕ) (d : A) (b : List A) → n ≤ length l → length b ≡ length l → ((k : ℕ) → k < n → get_or b k d ≡ f k)
      → ((k : ℕ) → n ≤ k → get_or b k d ≡ get_or l k d) → b ≡ filled f n l
  filled_is n d b r e i o =
      ext_get_or d b (filled f n l) (e ∙ sym (length_filled n))
      (λ k h. ⊎_elim
      (λ w. o k w ∙ sym (filled_past n k d w))
      (λ w. i k w ∙ sym (filled_at n k d w r))
      (le_or_lt n k))

-- two tables with the same entries
pub filled_cong : {A : Type 0} (f g : ℕ → A) (n : ℕ) (l : List A) → ((k : ℕ) → k < n → f k ≡ g k) → filled f n l ≡ filled g n l
unfolding filled
filled_cong f g n l h = turns_cong (fill_at f) (fill_at g) l n (λ k b r. ap (set b k) (h k r))

-- what stood there before does not matter where all of it is written anew
pub filled_over : {A : Type 0} (f g : ℕ → A) (m n : ℕ) (l : List A) → m ≤ n → n ≤ length l → filled f n (filled g m l) ≡ filled f n l
filled_over f g m zero l h r = ap (filled f 0) (sym (filled_end g l 0 m (filled_begin g l) (omega arith)))
filled_over f g m (suc n) l h r =
    let b = filled g m l in
    let e : suc n ≤ length b = omega (arith, length_filled g l m) in
    filled_is f l (suc n) (f 0) (filled f (suc n) b) r (length_filled f b (suc n) ∙ length_filled g l m)
    (λ k i. filled_at f b (suc n) k (f 0) i e)
    (λ k i. filled_past f b (suc n) k (f 0) i ∙ filled_past g l m k (f 0) (omega arith))

-- one value over itself
set_replicate : {A : Type 0} (n i : ℕ) (v : A) → set (replicate n v) i v ≡ replicate n v
set_replicate zero i v = refl
set_replicate (suc n) zero v = refl
set_replicate (suc n) (suc i) v = ap (λ l. v ∷ l) (set_replicate n i v)

pub filled_replicate : {A : Type 0} (v : A) (n k : ℕ) → replicate n v ≡ filled (λ i. v) k (replicate n v)
unfolding filled
filled_replicate v n k =
    sym (turns_keep (fill_at (λ i. v)) (replicate n v) (λ b. b ≡ replicate n v) refl (λ i b e. ap (λ z. set z i v) e ∙ set_replicate n i v) k)

-- the entry at column x and row y
pub by_row_lem : {A : Type 0} (f : ℕ → ℕ → A) (w x y : ℕ) → x < w → by_row w f (y * w + x) ≡ f x y
unfolding by_row
by_row_lem f w x y h = ap (λ i. f i ((y * w + x) / w)) (digits_mod y h) ∙ ap (f x) (digits_div y h)
