-- A part of a list by its place and length. Assumes nothing.
use mathlib.Core.Path.{◌≡◌, sym, ap, ◌∙◌}
use mathlib.Core.List.{List, [], ◌∷◌, ◌++◌}
use Prim.Native.Nat.{ℕ, ◌+◌, ◌≤◌, ◌<◌}
use native.Mathlib.Numerals.{add-one}
use native.Mathlib.Omega.{arith}
use lib.ListN.{length, get_or, take, drop, length-drop, take-append-drop}
use lib.Seq.{length-take-le, take-add, take-append-le, take-suc, drop-append-le, drop-append-add, drop-drop, get_or-drop}

-- the n entries of l from place p on
abbrev pub span : {A : Type 0} → List A → ℕ → ℕ → List A
span l p n = take n (drop p l)

module _ {A : Type 0} where
  -- two that meet
  pub span_join : (l : List A) (p m q n : ℕ) → q ≡ p + m → span l p m ++ span l q n ≡ span l p (m + n)
  span_join l p m q n e =
      ap (λ i. span l p m ++ span l i n) e
      ∙ ap (λ r. span l p m ++ take n r) (sym (drop-drop m p l))
      ∙ sym (take-add m n (drop p l))

  -- of two lists, one after the other
  pub span_left : (xs ys : List A) (p n : ℕ) → p + n ≤ length xs → span (xs ++ ys) p n ≡ span xs p n
  span_left xs ys p n h =
      ap (take n) (drop-append-le p xs ys (omega arith))
      ∙ take-append-le n (drop p xs) ys (omega (arith, length-drop p xs))

  pub span_right : (xs ys : List A) (p q n : ℕ) → p ≡ length xs + q → span (xs ++ ys) p n ≡ span ys q n
  span_right xs ys p q n e = ap (λ i. span (xs ++ ys) i n) e ∙ ap (take n) (drop-append-add xs ys q)

  -- of a part
  pub span_within : (l : List A) (p n q o m : ℕ) → p + n ≤ length l → o + m ≤ n → q ≡ p + o → span l q m ≡ span (span l p n) o m
  span_within l p n q o m h r e =
      let d = drop p l in
      let long : length (take n d) ≡ n = length-take-le n d (omega (arith, length-drop p l)) in
      ap (λ i. span l i m) e
      ∙ ap (take m) (sym (drop-drop o p l))
      ∙ ap (λ x. span x o m) (sym (take-append-drop n d))
      ∙ span_left (take n d) (drop n d) o m (omega arith)

-- from place k on x comes first, and m behind it
module _ {A : Type 0} (l : List A) (k : ℕ) (x : A) (m : List A) (e : drop k l ≡ x ∷ m) where
  pub drop_more : drop (k + 1) l ≡ m
  drop_more = sym (drop-drop 1 k l) ∙ ap (drop 1) e

  pub take_more : take (k + 1) l ≡ take k l ++ (x ∷ [])
  take_more =
      let h : k < length l = omega (arith, length-drop k l, ap length e) in
      let p : k ≡ k + 0 = omega arith in
      let g : get_or l k x ≡ x = ap (λ i. get_or l i x) p ∙ sym (get_or-drop k l 0 x) ∙ ap (λ t. get_or t 0 x) e in
      ap (λ i. take i l) (add-one k) ∙ take-suc l k x h ∙ ap (λ y. take k l ++ (y ∷ [])) g
