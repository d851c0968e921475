-- The page's text: how long each part is, and how a loop writes it. Assumes nothing.
use mathlib.Core.Path.{◌≡◌, refl, sym, ap, ◌∙◌}
use mathlib.Core.List.{List, [], ◌∷◌, ◌++◌}
use Prim.Native.Nat.{ℕ, zero, suc, ◌+◌, ◌-◌, ◌*◌, ◌/◌, ◌^◌, ◌≤◌, ◌<◌}
use native.Mathlib.Numerals.{add-one}
use native.Mathlib.Omega.{arith}
use lib.Ieee.{Float}
use lib.ListN.{length, drop, set, length-append, length-set}
use lib.Seq.{drop-cons, drop-set-lt, get_or-set_same, append_snoc}
use Rattle.base.proofs.Joined.{length_joined}
use Rattle.page.specs.Text.{blank, point, feed, digit, leading, columns, whole, field_of, line_length, line_of, row_at, page_text}
use Rattle.page.specs.Amounts.{units_of}
use Rattle.page.specs.declared.Row.{Row}

-- ---- lengths

pub columns_length : (f : ℕ → ℕ) (n q : ℕ) → length (columns f n q) ≡ n
unfolding columns
columns_length f zero q = refl
columns_length f (suc n) q = length-append (columns f n (q / 10)) (f q ∷ []) ∙ omega (arith, columns_length f n (q / 10))

pub whole_length : (n q : ℕ) → 1 ≤ n → length (whole n q) ≡ n
unfolding whole
whole_length n q h = length-append (columns leading (n - 1) (q / 10)) (digit q ∷ []) ∙ omega (arith, columns_length leading (n - 1) (q / 10))

pub field_length : (width places q : ℕ) → places + 2 ≤ width → length (field_of width places q) ≡ width
unfolding field_of
field_length width places q h =
    let n = width - (places + 1) in
    length-append (whole n (q / 10 ^ places)) (point ∷ columns digit places q)
    ∙ omega (arith, whole_length n (q / 10 ^ places) (omega arith), columns_length digit places q)

-- a number and the letter after it
pub whole_part : (n q a : ℕ) → 1 ≤ n → length (whole n q ++ (a ∷ [])) ≡ n + 1
whole_part n q a h = length-append (whole n q) (a ∷ []) ∙ omega (arith, whole_length n q h)

pub field_part : (width places q a : ℕ) → places + 2 ≤ width → length (field_of width places q ++ (a ∷ [])) ≡ width + 1
field_part width places q a h = length-append (field_of width places q) (a ∷ []) ∙ omega (arith, field_length width places q h)

pub line_length_lem : (rank : ℕ) (r : Row) → length (line_of rank r) ≡ line_length
unfolding line_of
line_length_lem rank r =
    let x = units_of 100 r.x in
    let y = units_of 100 r.y in
    let size = units_of 100 r.size in
    let score = units_of 1000 r.score in
    sum (whole 4 rank ++ (blank ∷ [])) (field_of 8 2 x ++ (blank ∷ [])) (field_of 8 2 y ++ (blank ∷ [])) (field_of 7 2 size ++ (blank ∷ []))
    (field_of 5 3 score ++ (feed ∷ []))
    (whole_part 4 rank blank (omega arith))
    (field_part 8 2 x blank (omega arith))
    (field_part 8 2 y blank (omega arith))
    (field_part 7 2 size blank (omega arith))
    (field_part 5 3 score feed (omega arith))
  where
    sum : (a b c d e : List ℕ) → length a ≡ 5 → length b ≡ 9 → length c ≡ 9 → length d ≡ 8 → length e ≡ 6 → length (a ++ b ++ c ++ d ++ e) ≡ 37
    sum a b c d e p q r s t =
        omega (arith, length-append (a ++ b ++ c ++ d) e, length-append (a ++ b ++ c) d, length-append (a ++ b) c, length-append a b)

pub page_length : (c : List Float) (n : ℕ) → length (page_text c n) ≡ line_length * n
page_length c n = length_joined _ line_length (λ i. line_length_lem (i + 1) (row_at c i)) n

-- ---- columns from the right: k are left, and what is behind them is written

pub columns_step : (f : ℕ → ℕ) (k q v : ℕ) (l t : List ℕ) → k < length l → v ≡ f q → t ≡ columns f (k + 1) q ++ drop (k + 1) l
    → t ≡ columns f k (q / 10) ++ drop k (set l k v)
unfolding columns
columns_step f k q v l t h e d =
    d
    ∙ ap (λ i. columns f i q ++ drop i l) (add-one k)
    ∙ append_snoc (columns f k (q / 10)) (f q) (drop (suc k) l)
    ∙ ap (λ z. columns f k (q / 10) ++ (z ∷ drop (suc k) l)) (sym e)
    ∙ ap (λ z. columns f k (q / 10) ++ z) (sym stored)
  where
    stored : drop k (set l k v) ≡ v ∷ drop (suc k) l
    stored =
        let r : k < length (set l k v) = omega (arith, length-set l k v) in
        drop-cons (set l k v) k 0 r
        ∙ ap (λ z. z ∷ drop (suc k) (set l k v)) (get_or-set_same l k v 0 h)
        ∙ ap (λ z. v ∷ z) (drop-set-lt (suc k) l k v (omega arith))

pub columns_end : (f : ℕ → ℕ) (k q : ℕ) (l t : List ℕ) → k ≡ 0 → t ≡ columns f k q ++ drop k l → l ≡ t
unfolding columns
columns_end f k q l t z d = sym (d ∙ ap (λ i. columns f i q ++ drop i l) z)
