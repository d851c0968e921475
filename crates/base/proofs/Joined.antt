-- Laws of `joined`, for lists of one length m; and such lists written one after another over the start of a list. Assumes nothing.
use mathlib.Core.Path.{◌≡◌, refl, sym, ap, ap₂, ◌∙◌}
use mathlib.Core.Logic.{⊎_elim}
use mathlib.Core.List.{List, [], ◌∷◌, ◌++◌, flatten, append_assoc, append-nil}
use Prim.Native.Nat.{ℕ, zero, suc, ◌+◌, ◌-◌, ◌*◌, ◌≤◌, ◌<◌}
use native.Mathlib.Nat.{mul-suc, mul-zero, mul-le-mul, le_refl}
use native.Mathlib.Numerals.{add-one}
use native.Mathlib.Omega.{arith}
use lib.ListN.{length, take, drop, length-append, length-drop}
use lib.Seq.{drop-append-le, drop_at, take-append-le, take-length}
use borrow.Rule.Slice.PartMut.{put_mid}
use Rattle.base.specs.Loops.{joined, table}
use Rattle.base.proofs.Arith.{last_or}
use Rattle.base.proofs.Over.{over, over_part}
use Rattle.base.proofs.Spans.{span, span_join}
use Rattle.base.proofs.Table.{table_more}

joined_more : {A : Type 0} (f : ℕ → List A) (n : ℕ) → joined f (n + 1) ≡ joined f n ++ f n
joined_more f n = ap (joined f) (add-one n) ∙ unfold joined in refl

-- lists that are equal one by one
pub joined_cong : {A : Type 0} (f g : ℕ → List A) (n : ℕ) → ((i : ℕ) → i < n → f i ≡ g i) → joined f n ≡ joined g n
unfolding joined
joined_cong f g zero h = refl
joined_cong f g (suc n) h = ap₂ ◌++◌ (joined_cong f g n (λ i l. h i (omega arith))) (h n (omega arith))

-- the parts of a list from p on, m each
pub joined_spans : {A : Type 0} (b : List A) (f : ℕ → List A) (p m n : ℕ) → ((i : ℕ) → i < n → f i ≡ span b (p + m * i) m) → joined f n ≡ span b p (m * n)
unfolding joined
joined_spans b f p m zero h = ap (span b p) (sym (mul-zero m))
joined_spans b f p m (suc n) h =
    ap (λ l. l ++ f n) (joined_spans b f p m n (λ i k. h i (omega arith)))
    ∙ ap (λ l. span b p (m * n) ++ l) (h n (omega arith))
    ∙ span_join b p (m * n) (p + m * n) m refl
    ∙ ap (span b p) (sym (mul-suc m n))

-- the lists of a table
pub flatten_more : {A : Type 0} (l : List (List A)) (x : List A) → flatten (l ++ (x ∷ [])) ≡ flatten l ++ x
unfolding flatten
flatten_more [] x = append-nil x
flatten_more (y ∷ l) x = ap (λ t. y ++ t) (flatten_more l x) ∙ sym (append_assoc y (flatten l) x)

pub flatten_table : {A : Type 0} (f : ℕ → List A) (n : ℕ) → flatten (table f n) ≡ joined f n
flatten_table f zero = unfold flatten table joined in refl
flatten_table f (suc n) =
    ap flatten (table_more f n)
    ∙ flatten_more (table f n) (f n)
    ∙ ap (λ t. t ++ f n) (flatten_table f n)
    ∙ unfold joined in refl

module _ {A : Type 0} (f : ℕ → List A) (m : ℕ) (each : (i : ℕ) → length (f i) ≡ m) where
  pub length_joined : (n : ℕ) → length (joined f n) ≡ m * n
  unfolding joined
  length_joined zero = sym (mul-zero m)
  length_joined (suc n) = length-append (joined f n) (f n) ∙ omega (arith, length_joined n, each n, mul-suc m n)

  -- list i is where it was put
  pub joined_part : (n i : ℕ) → i < n → take m (drop (m * i) (joined f n)) ≡ f i
  unfolding joined
  joined_part zero i h = absurd (omega arith)
  joined_part (suc n) i h = ⊎_elim last (λ k. before k (joined_part n i k)) (last_or i n h)
    where
      last : i ≡ n → take m (drop (m * i) (joined f n ++ f n)) ≡ f i
      last e =
          ap (take m) (drop_at (joined f n) (f n) (m * i) (length_joined n ∙ ap (λ k. m * k) (sym e)))
          ∙ all (f n) (each n)
          ∙ ap f (sym e)
        where
          all : (l : List A) → length l ≡ m → take m l ≡ l
          all l e = ap (λ k. take k l) (sym e) ∙ take-length l

      before : i < n → take m (drop (m * i) (joined f n)) ≡ f i → take m (drop (m * i) (joined f n ++ f n)) ≡ f i
      before k r =
          let q : m * (i + 1) ≤ m * n = mul-le-mul (le_refl m) (omega arith) in
          let s : m * (i + 1) ≡ m * i + m = ap (λ j. m * j) (add-one i) ∙ mul-suc m i in
          ap (take m) (drop-append-le (m * i) (joined f n) (f n) (omega (arith, length_joined n)))
          ∙ take-append-le m (drop (m * i) (joined f n)) (f n) (omega (arith, length-drop (m * i) (joined f n), length_joined n))
          ∙ r

  -- the entries from `at` on were lent and came back as list i
  pub over_joined : (front l b x : List A) (at i : ℕ) → b ≡ over (front ++ joined f i) l → at ≡ length front + m * i → x ≡ f i
      → put_mid at (at + m - at) b x ≡ over (front ++ joined f (i + 1)) l
  over_joined front l b x at i h p e =
      let long : length (front ++ joined f i) ≡ at = length-append front (joined f i) ∙ omega (arith, length_joined i) in
      over_part (front ++ joined f i) l b x at (at + m) h (sym long) (omega arith) (ap length e ∙ each i ∙ omega arith)
      ∙ ap (λ z. over (front ++ joined f i ++ z) l) e
      ∙ ap (λ z. over z l) (append_assoc front (joined f i) (f i) ∙ ap (λ z. front ++ z) (sym (joined_more f i)))

  pub over_joined_end : (front l b : List A) (i n : ℕ) → b ≡ over (front ++ joined f i) l → i ≡ n → b ≡ front ++ joined f n ++ drop (length front + m * n) l
  over_joined_end front l b i n h e =
      h
      ∙ ap (λ k. over (front ++ joined f k) l) e
      ∙ ap (λ k. front ++ joined f n ++ drop k l) (length-append front (joined f n) ∙ ap (λ k. length front + k) (length_joined n))
