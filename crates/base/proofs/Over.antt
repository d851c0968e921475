-- A text written over the start of a list, part after part: `over t l` is t and the rest of l behind it. Assumes nothing.
use mathlib.Core.Path.{◌≡◌, sym, ap, ◌∙◌}
use mathlib.Core.List.{List, [], ◌∷◌, ◌++◌, append_assoc, append-nil}
use Prim.Native.Nat.{ℕ, suc, ◌+◌, ◌-◌, ◌≤◌, ◌<◌}
use native.Mathlib.Omega.{arith}
use lib.ListN.{length, take, drop, set, length-append, length-drop, drop_of_length-le}
use lib.Seq.{drop-cons, drop-drop, take_at, drop_at, set_at, append_snoc}
use borrow.Rule.Slice.PartMut.{put_mid}

abbrev pub over : {A : Type 0} → List A → List A → List A
over t l = t ++ drop (length t) l

module _ {A : Type 0} (t l : List A) where
  -- the text's end in the list
  over_drop : (b : List A) (n : ℕ) → b ≡ over t l → n ≡ length t → drop n b ≡ drop n l
  over_drop b n e h = ap (drop n) e ∙ drop_at t (drop (length t) l) n (sym h) ∙ ap (λ k. drop k l) (sym h)

  -- one letter more
  pub over_set : (b : List A) (n : ℕ) (v : A) → b ≡ over t l → n ≡ length t → n < length l → set b n v ≡ over (t ++ (v ∷ [])) l
  over_set b n v e h r =
      let k : length (t ++ (v ∷ [])) ≡ suc n = length-append t (v ∷ []) ∙ omega arith in
      ap (λ z. set z n v) (e ∙ ap (λ i. t ++ drop i l) (sym h) ∙ ap (λ z. t ++ z) (drop-cons l n v r))
      ∙ set_at t _ (drop (suc n) l) v n (sym h)
      ∙ sym (append_snoc t v (drop (suc n) l))
      ∙ ap (λ i. t ++ (v ∷ []) ++ drop i l) (sym k)

  -- one part more: the entries from n up to e were lent and came back as s
  pub over_part : (b s : List A) (n e : ℕ) → b ≡ over t l → n ≡ length t → n ≤ e → length s ≡ e - n → put_mid n (e - n) b s ≡ over (t ++ s) l
  over_part b s n e d h r m =
      let k : n + (e - n) ≡ length (t ++ s) = omega (arith, length-append t s) in
      ap (λ z. z ++ (s ++ drop (e - n) (drop n b))) (ap (take n) d ∙ take_at t (drop (length t) l) n (sym h))
      ∙ ap (λ z. t ++ (s ++ z)) (ap (drop (e - n)) (over_drop b n d h) ∙ drop-drop (e - n) n l ∙ ap (λ i. drop i l) k)
      ∙ sym (append_assoc t s (drop (length (t ++ s)) l))

  -- the first part: the first n entries were lent and came back as t
  pub over_first : (n : ℕ) → length t ≡ n → t ++ drop n l ≡ over t l
  over_first n h = ap (λ i. t ++ drop i l) (sym h)

  -- all of the list is written
  pub over_whole : (b : List A) → b ≡ over t l → length t ≡ length l → b ≡ t
  over_whole b e h = e ∙ ap (λ z. t ++ z) (drop_of_length-le l {i = length t} (omega arith)) ∙ append-nil t

  pub length_over : length t ≤ length l → length (over t l) ≡ length l
  length_over h = length-append t (drop (length t) l) ∙ omega (arith, length-drop (length t) l)

-- ---- a text made of parts: t is written over the start of l, up to place e

pub record Part {A : Type 0} (t l b : List A) (e : ℕ) : Type 0 where
  pub written : b ≡ over t l
  pub reached : length t ≡ e

pub part_first : {A : Type 0} (t l x : List A) (n : ℕ) → x ≡ t → length t ≡ n → Part t l (x ++ drop n l) n
part_first t l x n e h = record { written = ap (λ z. z ++ drop n l) e ∙ over_first t l n h; reached = h }

pub part_next : {A : Type 0} (t l b s x : List A) (n e : ℕ) → Part t l b n → n ≤ e → x ≡ s → length s ≡ e - n → Part (t ++ s) l (put_mid n (e - n) b x) e
part_next t l b s x n e p h i r =
    record {
      written = ap (put_mid n (e - n) b) i ∙ over_part t l b s n e p.written (sym p.reached) h r;
      reached = length-append t s ∙ omega (arith, p.reached);
    }

pub part_long : {A : Type 0} (t l b : List A) (e : ℕ) → Part t l b e → e ≤ length l → length b ≡ length l
part_long t l b e p h = ap length p.written ∙ length_over t l (omega (arith, p.reached))

pub part_whole : {A : Type 0} (t l b : List A) (e : ℕ) → Part t l b e → e ≡ length l → b ≡ t
part_whole t l b e p h = over_whole t l b p.written (p.reached ∙ h)
