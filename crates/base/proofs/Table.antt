-- Laws of `table`. Assumes nothing.
use mathlib.Core.Path.{◌≡◌, refl, sym, ap, ◌∙◌}
use mathlib.Core.List.{List, [], ◌∷◌, ◌++◌}
use Prim.Native.Nat.{ℕ, zero, suc, ◌+◌, ◌-◌, ◌≤◌, ◌<◌}
use native.Mathlib.Omega.{arith}
use lib.ListN.{length, get_or, take, drop, length-append, length-drop, get_or-append}
use lib.Seq.{ext_get_or, get_or-append-add, get_or-drop, get_or-take, length-take-le, take_at, drop_at}
use Rattle.base.specs.Loops.{table, filled}
use Rattle.base.proofs.Plane.{length_filled, filled_at, filled_is}

pub length_table : {A : Type 0} (f : ℕ → A) (n : ℕ) → length (table f n) ≡ n
unfolding table
length_table f zero = refl
length_table f (suc n) = ap suc (length_table (λ k. f (suc k)) n)

pub table_at : {A : Type 0} (f : ℕ → A) (n k : ℕ) (d : A) → k < n → get_or (table f n) k d ≡ f k
unfolding table
table_at f zero k d h = absurd (omega arith)
table_at f (suc n) zero d h = refl
table_at f (suc n) (suc k) d h = table_at (λ j. f (suc j)) n k d (omega arith)

-- one entry more
pub table_more : {A : Type 0} (f : ℕ → A) (n : ℕ) → table f (suc n) ≡ table f n ++ (f n ∷ [])
unfolding table
table_more f zero = refl
table_more f (suc n) = ap (λ l. f 0 ∷ l) (table_more (λ k. f (suc k)) n)

module _ {A : Type 0} (f : ℕ → A) where
  -- a list that agrees is the table
  pub table_is : (n : ℕ) (d : A) (b : List A) → length b ≡ n → ((k : ℕ) → k < n → get_or b k d ≡ f k) → b ≡ table f n
  table_is n d b e h =
      ext_get_or d b (table f n) (e ∙ sym (length_table f n))
      (λ k l. h k (omega arith) ∙ sym (table_at f n k d (omega arith)))

  -- two tables with the same entries
  pub table_cong : (g : ℕ → A) (n : ℕ) → ((k : ℕ) → k < n → f k ≡ g k) → table f n ≡ table g n
  table_cong g zero h = unfold table in refl
  table_cong g (suc n) h =
      sym (table_is (suc n) (f zero) (table g (suc n)) (length_table g (suc n))
      (λ k l. table_at g (suc n) k (f zero) l ∙ sym (h k l)))

  -- a list filled whole is the table
  pub filled_whole : (n : ℕ) (l : List A) → length l ≡ n → filled f n l ≡ table f n
  filled_whole zero l e = nothing (filled f zero l) (length_filled f l zero ∙ e)
    where
      nothing : (b : List A) → length b ≡ 0 → b ≡ table f 0
      nothing b z = table_is 0 (f zero) b z (λ k h. absurd (omega arith))
  filled_whole (suc n) l e =
      table_is (suc n) (f zero) (filled f (suc n) l) (length_filled f l (suc n) ∙ e)
      (λ k h. filled_at f l (suc n) k (f zero) h (omega arith))

  -- a list filled at its start: the table, and the rest
  pub filled_front : (n : ℕ) (d : A) (l : List A) → n ≤ length l → filled f n l ≡ table f n ++ drop n l
  filled_front n d l h =
      sym (filled_is f l n d (table f n ++ drop n l) h
      (length-append (table f n) (drop n l) ∙ omega (arith, length_table f n, length-drop n l))
      (λ k b. get_or-append (table f n) (drop n l) d k (omega (arith, length_table f n)) ∙ table_at f n k d b)
      (λ k b. past k b))
    where
      past : (k : ℕ) → n ≤ k → get_or (table f n ++ drop n l) k d ≡ get_or l k d
      past k b =
          let e : length (table f n) + (k - n) ≡ k = omega (arith, length_table f n) in
          let p : n + (k - n) ≡ k = omega arith in
          ap (λ i. get_or (table f n ++ drop n l) i d) (sym e)
          ∙ get_or-append-add (table f n) (drop n l) (k - n) d
          ∙ get_or-drop n l (k - n) d
          ∙ ap (λ i. get_or l i d) p

  -- its two parts
  pub take_filled : (n : ℕ) (d : A) (l : List A) → n ≤ length l → take n (filled f n l) ≡ table f n
  take_filled n d l h = ap (take n) (filled_front n d l h) ∙ take_at (table f n) (drop n l) n (length_table f n)

  pub drop_filled : (n : ℕ) (d : A) (l : List A) → n ≤ length l → drop n (filled f n l) ≡ drop n l
  drop_filled n d l h = ap (drop n) (filled_front n d l h) ∙ drop_at (table f n) (drop n l) n (length_table f n)

-- a loop that copies the first n entries
pub filled_take : {A : Type 0} (d : A) (l m : List A) (n : ℕ) → n ≤ length l → length m ≡ n → filled (λ k. get_or l k d) n m ≡ take n l
filled_take d l m n h e =
    filled_whole (λ k. get_or l k d) n m e
    ∙ sym (table_is (λ k. get_or l k d) n d (take n l) (length-take-le n l h) (λ k b. get_or-take n l k d b))
