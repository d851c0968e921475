-- A part of a list that was lent and put back: `&mut a[..m]` and `&mut a[n..e]`; what it leaves of the rest. Assumes nothing.
use mathlib.Core.Path.{◌≡◌, refl, sym, ap, subst, ◌∙◌}
use mathlib.Core.List.{List, [], ◌∷◌, ◌++◌}
use Prim.Native.Nat.{ℕ, zero, suc, ◌+◌, ◌-◌, ◌≤◌, ◌<◌}
use native.Mathlib.Nat.{zero-add, suc-add}
use native.Mathlib.Omega.{arith}
use lib.ListN.{length, take, drop, set, length-drop, take-append-drop}
use lib.Seq.{set-append_left, length-take-le, drop_at, drop-drop}
use borrow.Rule.Slice.PartMut.{mid_of, post_of, put_mid, put_same}
use Rattle.base.specs.Loops.{turns, fill_at, filled}
use Rattle.base.proofs.Turns.{turns_add}
use Rattle.base.proofs.Plane.{length_filled, filled_begin, filled_suc}

-- what agrees from a on agrees from b on
pub drop_later : {A : Type 0} (a b : ℕ) (k l : List A) → a ≤ b → drop a k ≡ drop a l → drop b k ≡ drop b l
drop_later a b k l h e =
    let g : a + (b - a) ≡ b = omega arith in
    subst (λ n. drop n k ≡ drop n l) g (sym (drop-drop (b - a) a k) ∙ ap (drop (b - a)) e ∙ drop-drop (b - a) a l)

-- the first n lent, and back as x: the rest is as it was
pub lent_rest : {A : Type 0} (x l : List A) (n m : ℕ) → n ≤ length l → length x ≡ length (take n l) → n ≡ m → drop m (x ++ drop n l) ≡ drop m l
lent_rest x l n m h e p = drop_at x (drop n l) m (e ∙ length-take-le n l h ∙ p) ∙ ap (λ k. drop k l) p

set_append_right : {A : Type 0} (xs ys : List A) (j : ℕ) (v : A) → set (xs ++ ys) (length xs + j) v ≡ xs ++ set ys j v
set_append_right [] ys j v = ap (λ i. set ys i v) (zero-add j)
set_append_right (x ∷ xs) ys j v = ap (λ i. set (x ∷ (xs ++ ys)) i v) (suc-add (length xs) j) ∙ ap (λ l. x ∷ l) (set_append_right xs ys j v)

module _ {A : Type 0} (f : ℕ → A) (l : List A) where
  -- the first m lent, and n of them filled
  pub filled_lent : (n m : ℕ) → n ≤ m → m ≤ length l → filled f n (take m l) ++ drop m l ≡ filled f n l
  filled_lent zero m h r = ap (λ b. b ++ drop m l) (sym (filled_begin f (take m l))) ∙ take-append-drop m l ∙ filled_begin f l
  filled_lent (suc n) m h r =
      let b = filled f n (take m l) in
      let k : n < length b = omega (arith, length_filled f (take m l) n, length-take-le m l r) in
      ap (λ b. b ++ drop m l) (filled_suc f (take m l) n)
      ∙ sym (set-append_left b (drop m l) n (f n) k)
      ∙ ap (λ b. set b n (f n)) (filled_lent n m (omega arith) r)
      ∙ sym (filled_suc f l n)

-- the entries from n up to e lent, and filled: what was filled up to n is then filled up to e
module _ {A : Type 0} (f : ℕ → A) (l b : List A) (n m : ℕ) (r : n + m ≤ length b) where
  put_set : (ys : List A) (j : ℕ) (v : A) → j < length ys → put_mid n m b (set ys j v) ≡ set (put_mid n m b ys) (n + j) v
  put_set ys j v h =
      let e : length (take n b) ≡ n = length-take-le n b (omega arith) in
      ap (λ z. take n b ++ z) (sym (set-append_left ys (post_of n m b) j v h))
      ∙ sym (set_append_right (take n b) (ys ++ post_of n m b) j v)
      ∙ ap (λ i. set (put_mid n m b ys) (i + j) v) e

  put_filled : (k : ℕ) → k ≤ m → put_mid n m b (filled (λ j. f (n + j)) k (mid_of n m b)) ≡ turns k (λ j. fill_at f (n + j)) b
  put_filled zero h = ap (put_mid n m b) (sym (filled_begin (λ j. f (n + j)) (mid_of n m b))) ∙ put_same n m b ∙ unfold turns in refl
  put_filled (suc k) h =
      let g : ℕ → A = λ j. f (n + j) in
      let ys = filled g k (mid_of n m b) in
      let q : k < length ys = omega (arith, length_filled g (mid_of n m b) k, length-take-le m (drop n b) (omega (arith, length-drop n b))) in
      ap (put_mid n m b) (filled_suc g (mid_of n m b) k)
      ∙ put_set ys k (g k) q
      ∙ ap (λ z. set z (n + k) (g k)) (put_filled k (omega arith))
      ∙ unfold turns in refl

  pub filled_on : b ≡ filled f n l → put_mid n m b (filled (λ j. f (n + j)) m (mid_of n m b)) ≡ filled f (n + m) l
  unfolding filled
  filled_on e =
      put_filled m (omega arith)
      ∙ ap (turns m (λ j. fill_at f (n + j))) e
      ∙ sym (turns_add (fill_at f) l n m)
