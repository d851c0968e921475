-- The joined book written record by record. Assumes nothing.
use Prim.Native.Nat.{ℕ, ◌+◌, ◌-◌, ◌≤◌, ◌<◌}
use mathlib.Core.Path.{◌≡◌, refl, sym, ap, ◌∙◌}
use mathlib.Core.Logic.{◌⊎◌, inl, inr, ⊎_elim}
use mathlib.Core.List.{List, [], ◌∷◌, ◌++◌, flatten, append_assoc, append-nil}
use native.Mathlib.Omega.{arith}
use lib.ListN.{length, take, drop, length-append, length-drop}
use lib.Seq.{take_all, drop_at}
use borrow.Rule.Slice.PartMut.{put_mid, same_len_mid, mid_of}
use Rattle.base.proofs.Arith.{last_or}
use Rattle.base.proofs.Joined.{flatten_more}
use Rattle.base.proofs.Over.{over, over_part}
use Rattle.base.proofs.Spans.{drop_more, take_more}
use Rattle.book.specs.Layout.{book_length, header, count_in}
use Rattle.book.proofs.Written.{header_length}
use Rattle.merge.specs.Merged.{records, merged, book_of, joined_book, size}
use Rattle.merge.specs.Steps.{Within, rest_of, passed, next_record}
use Rattle.merge.specs.declared.walk.Cursors.{Cursors}
use Rattle.merge.specs.declared.walk.Side.{Side}
use Rattle.merge.proofs.Merging.{merged_none}
use Rattle.merge.proofs.Walks.{rest_none, Turn, turn_within, turn_merged}

-- k records of the joined book of n records are written over the start of l, and the walk stands at the next
pub record Filled (a b : List ℕ) (n : ℕ) (l : List ℕ) (at : Cursors) (t : List ℕ) (k : ℕ) : Type 0 where
  pub within : Within a b at
  pub left : drop k (merged (records a) (records b)) ≡ merged (rest_of a at.first) (rest_of b at.second)
  pub reached : length (header n ++ flatten (take k (merged (records a) (records b)))) ≡ book_length k
  pub written : t ≡ over (header n ++ flatten (take k (merged (records a) (records b)))) l
  pub held : k ≤ n
  pub long : length t ≡ length l

module _ (a b : List ℕ) (n : ℕ) where
  abbrev M : List (List ℕ)
  M = merged (records a) (records b)

  -- the header
  pub filled_none : (x l : List ℕ) → x ≡ header n → Filled a b n (x ++ drop 16 l) (record { first = 0; second = 0 }) (x ++ drop 16 l) 0
  filled_none x l e =
      let z : header n ++ flatten (take 0 M) ≡ header n = unfold flatten in append-nil (header n) in
      record {
        within = record { first_within = omega arith; second_within = omega arith };
        left = refl;
        reached = ap length z ∙ header_length n;
        written = ap (λ t. t ++ drop 16 l) e ∙ ap (λ t. header n ++ t) (sym (drop_at x (drop 16 l) 16 (ap length e ∙ header_length n)))
            ∙ ap (λ k. header n ++ drop k (x ++ drop 16 l)) (sym (header_length n))
            ∙ ap (λ t. over t (x ++ drop 16 l)) (sym z);
        held = omega arith;
        long = refl;
      }

  -- a record more
  pub filled_more : (l : List ℕ) (at : Cursors) (t : List ℕ) (k : ℕ) (side : Side) (x : List ℕ)
      → Filled a b n l at t k → Turn a b at side → k < n → x ≡ next_record a b at side → length x ≡ 120
      → length x ≡ length (mid_of (book_length k) (book_length k + 120 - book_length k) t)
      → Filled a b n l (passed at side) (put_mid (book_length k) (book_length k + 120 - book_length k) t x) (k + 1)
  filled_more l at t k side x F T h e long kept =
      let w : merged (rest_of a at.first) (rest_of b at.second) ≡ x ∷ merged (rest_of a (passed at side).first) (rest_of b (passed at side).second) =
      turn_merged a b at side T ∙ ap (λ r. r ∷ merged (rest_of a (passed at side).first) (rest_of b (passed at side).second)) (sym e) in
      let d = F.left ∙ w in
      let m : flatten (take (k + 1) M) ≡ flatten (take k M) ++ x = ap flatten (take_more M k x _ d) ∙ flatten_more (take k M) x in
      let s : header n ++ flatten (take k M) ++ x ≡ header n ++ flatten (take (k + 1) M) = append_assoc (header n) (flatten (take k M)) x ∙ ap (λ r. header n ++ r) (sym m) in
      record {
        within = turn_within a b at side F.within T;
        left = drop_more M k x _ d;
        reached = ap length (sym s) ∙ length-append (header n ++ flatten (take k M)) x ∙ omega (arith, F.reached);
        written = over_part (header n ++ flatten (take k M)) l t x (book_length k) (book_length k + 120) F.written (sym F.reached) (omega arith) (omega arith) ∙ ap (λ r. over r l) s;
        held = omega arith;
        long = same_len_mid (book_length k) (book_length k + 120 - book_length k) t x kept ∙ F.long;
      }

  -- all of them
  pub filled_all : (l : List ℕ) (at : Cursors) (t : List ℕ) (k : ℕ) (f : List ℕ) → Filled a b n l at t k → k ≡ n → n ≡ size a b
      → drop (book_length n) l ≡ drop (book_length n) f → t ≡ joined_book a b ++ drop (book_length n) f
  unfolding joined_book book_of size
  filled_all l at t k f F e s d =
      let z : take k M ≡ M = take_all k M (omega arith) in
      F.written
      ∙ ap (λ i. header n ++ flatten (take k M) ++ drop i l) F.reached
      ∙ ap (λ i. header n ++ flatten (take k M) ++ drop (book_length i) l) e
      ∙ ap (λ r. header n ++ flatten r ++ drop (book_length n) l) z
      ∙ ap (λ r. header n ++ flatten M ++ r) d
      ∙ ap (λ i. header i ++ flatten M ++ drop (book_length n) f) s

  -- before that, a record is left
  pub some_left : (l : List ℕ) (at : Cursors) (t : List ℕ) (k : ℕ) → Filled a b n l at t k → k < n → n ≡ size a b → (at.first < count_in a) ⊎ (at.second < count_in b)
  unfolding size
  some_left l at t k F h s = ⊎_elim
      (λ e. ⊎_elim (λ d. absurd (none e d)) inr (last_or at.second (count_in b) (omega (arith, F.within.second_within))))
      inl
      (last_or at.first (count_in a) (omega (arith, F.within.first_within)))
    where
      none : at.first ≡ count_in a → at.second ≡ count_in b → ⊥
      none e d =
          let z : drop k M ≡ [] =
          F.left ∙ ap (λ r. merged r (rest_of b at.second)) (rest_none a at.first e) ∙ merged_none (rest_of b at.second) ∙ rest_none b at.second d in
          let g : length (drop k M) ≡ 0 = ap length z in
          omega (arith, length-drop k M)
