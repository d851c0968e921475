-- The walk through both books: what a step passes, and what is then known. Assumes nothing.
use Prim.Native.Nat.{ℕ, suc, ◌+◌, ◌-◌, ◌<◌}
use mathlib.Core.Path.{◌≡◌, refl, sym, ap, ap₂, subst, ◌∙◌}
use mathlib.Core.Bool.{true, false, cond}
use mathlib.Core.Logic.{◌⊎◌, ⊎_elim}
use mathlib.Core.List.{List, [], ◌∷◌}
use native.Mathlib.Numerals.{add-one}
use native.Mathlib.Omega.{arith}
use lib.ListN.{drop}
use lib.Seq.{drop-cons, drop-length}
use Rattle.base.specs.Loops.{table}
use Rattle.base.proofs.Arith.{last_or}
use Rattle.base.proofs.Table.{length_table, table_at}
use Rattle.book.specs.Layout.{count_in, key_in}
use Rattle.book.specs.Meaning.{Before}
use Rattle.merge.specs.Merged.{record_in, records, key_of, goes_before, merged}
use Rattle.merge.specs.Steps.{Whole, Within, Held, rest_of, side_of, passed, next_record}
use Rattle.merge.specs.declared.walk.Cursors.{Cursors}
use Rattle.merge.specs.declared.walk.Side.{Side}
use Rattle.merge.specs.declared.walk.Side.TheVariants.{First, Second, Both}
use Rattle.merge.proofs.Keys.{before_once, before_other, goes_before_lem, before_goes, not_before, Order, order}
use Rattle.merge.proofs.Keys.Order.{less, more, same}
use Rattle.merge.proofs.Merging.{merged_none, merged_nil, merged_first, merged_second, merged_both}
use Rattle.merge.proofs.Books.{length_records, key_in_lem}

-- ---- the records that are not passed

pub rest_more : (b : List ℕ) (i : ℕ) → i < count_in b → rest_of b i ≡ record_in b i ∷ rest_of b (i + 1)
unfolding records
rest_more b i h =
    let l = table (record_in b) (count_in b) in
    drop-cons l i [] (omega (arith, length_table (record_in b) (count_in b)))
    ∙ ap (λ r. r ∷ drop (suc i) l) (table_at (record_in b) (count_in b) i [] h)
    ∙ ap (λ k. record_in b i ∷ drop k l) (sym (add-one i))

pub rest_none : (b : List ℕ) (i : ℕ) → i ≡ count_in b → rest_of b i ≡ []
rest_none b i e = ap (λ k. drop k (records b)) (e ∙ sym (length_records b)) ∙ drop-length (records b)

-- ---- a step

module _ (r s : List ℕ) (l m : List (List ℕ)) where
  side_first : goes_before r s ≡ true → First ≡ side_of (r ∷ l) (s ∷ m)
  unfolding side_of
  side_first e = sym (ap (λ t. cond t First (cond (goes_before s r) Second Both)) e)

  side_second : goes_before r s ≡ false → goes_before s r ≡ true → Second ≡ side_of (r ∷ l) (s ∷ m)
  unfolding side_of
  side_second e d = sym (ap (λ t. cond t First (cond (goes_before s r) Second Both)) e ∙ ap (λ t. cond t Second Both) d)

  side_both : goes_before r s ≡ false → goes_before s r ≡ false → Both ≡ side_of (r ∷ l) (s ∷ m)
  unfolding side_of
  side_both e d = sym (ap (λ t. cond t First (cond (goes_before s r) Second Both)) e ∙ ap (λ t. cond t Second Both) d)

side_no_first : (m : List (List ℕ)) → Second ≡ side_of [] m
unfolding side_of
side_no_first m = refl

side_no_second : (r : List ℕ) (l : List (List ℕ)) → First ≡ side_of (r ∷ l) []
unfolding side_of
side_no_second r l = refl

-- the side, by the places and the keys that stand there
module _ (a b : List ℕ) (i j : ℕ) where
  pub next_no_first : i ≡ count_in a → Second ≡ side_of (rest_of a i) (rest_of b j)
  next_no_first e = side_no_first (rest_of b j) ∙ ap (λ t. side_of t (rest_of b j)) (sym (rest_none a i e))

  module _ (h : i < count_in a) where
    pub next_no_second : j ≡ count_in b → First ≡ side_of (rest_of a i) (rest_of b j)
    next_no_second e = side_no_second (record_in a i) (rest_of a (i + 1)) ∙ sym (ap₂ side_of (rest_more a i h) (rest_none b j e))

    module _ (k : j < count_in b) where
      there : side_of (record_in a i ∷ rest_of a (i + 1)) (record_in b j ∷ rest_of b (j + 1)) ≡ side_of (rest_of a i) (rest_of b j)
      there = sym (ap₂ side_of (rest_more a i h) (rest_more b j k))

      next_first : goes_before (record_in a i) (record_in b j) ≡ true → First ≡ side_of (rest_of a i) (rest_of b j)
      next_first e = side_first _ _ _ _ e ∙ there

      next_second : goes_before (record_in a i) (record_in b j) ≡ false → goes_before (record_in b j) (record_in a i) ≡ true → Second ≡ side_of (rest_of a i) (rest_of b j)
      next_second e d = side_second _ _ _ _ e d ∙ there

      next_both : goes_before (record_in a i) (record_in b j) ≡ false → goes_before (record_in b j) (record_in a i) ≡ false → Both ≡ side_of (rest_of a i) (rest_of b j)
      next_both e d = side_both _ _ _ _ e d ∙ there

      -- by the keys that stand there
      module _ (w : Whole a b) where
        key_first : key_in a i ≡ key_of (record_in a i)
        key_first = key_in_lem a i (omega (arith, w.first_whole))

        key_second : key_in b j ≡ key_of (record_in b j)
        key_second = key_in_lem b j (omega (arith, w.second_whole))

        pub next_less : Before (key_in a i) (key_in b j) → First ≡ side_of (rest_of a i) (rest_of b j)
        next_less l = next_first (before_goes _ _ (subst (λ z. Before z (key_of (record_in b j))) key_first (subst (Before (key_in a i)) key_second l)))

        pub next_more : Before (key_in b j) (key_in a i) → Second ≡ side_of (rest_of a i) (rest_of b j)
        next_more l =
            let k : Before (key_of (record_in b j)) (key_of (record_in a i)) = subst (λ z. Before z (key_of (record_in a i))) key_second (subst (Before (key_in b j)) key_first l) in
            next_second (not_before _ _ (λ p. before_once _ _ p k)) (before_goes _ _ k)

        pub next_same : key_in a i ≡ key_in b j → Both ≡ side_of (rest_of a i) (rest_of b j)
        next_same e =
            let same : key_of (record_in a i) ≡ key_of (record_in b j) = sym key_first ∙ e ∙ key_second in
            next_both (not_before _ _ (λ p. before_other _ _ p same)) (not_before _ _ (λ p. before_other _ _ p (sym same)))

-- where the next key stands: what is there, that it goes before the other book's next, and what is merged behind it
pub data Turn (a b : List ℕ) (at : Cursors) : Side → Type 0 where
  at_first : at.first < count_in a
      → (at.second < count_in b → Before (key_of (record_in a at.first)) (key_of (record_in b at.second)))
      → merged (rest_of a at.first) (rest_of b at.second) ≡ record_in a at.first ∷ merged (rest_of a (at.first + 1)) (rest_of b at.second)
      → Turn a b at First
  at_second : at.second < count_in b
      → (at.first < count_in a → Before (key_of (record_in b at.second)) (key_of (record_in a at.first)))
      → merged (rest_of a at.first) (rest_of b at.second) ≡ record_in b at.second ∷ merged (rest_of a at.first) (rest_of b (at.second + 1))
      → Turn a b at Second
  at_both : at.first < count_in a → at.second < count_in b
      → key_of (record_in a at.first) ≡ key_of (record_in b at.second)
      → merged (rest_of a at.first) (rest_of b at.second) ≡ record_in a at.first ∷ merged (rest_of a (at.first + 1)) (rest_of b (at.second + 1))
      → Turn a b at Both

module _ (a b : List ℕ) (at : Cursors) where
  abbrev i : ℕ
  i = at.first

  abbrev j : ℕ
  j = at.second

  -- of both books there is a record left
  turn_both : i < count_in a → j < count_in b → Turn a b at (side_of (rest_of a i) (rest_of b j))
  turn_both h k = go (order (record_in a i) (record_in b j))
    where
      l : List (List ℕ)
      l = rest_of a (i + 1)

      m : List (List ℕ)
      m = rest_of b (j + 1)

      here : merged (rest_of a i) (rest_of b j) ≡ merged (record_in a i ∷ l) (record_in b j ∷ m)
      here = ap₂ merged (rest_more a i h) (rest_more b j k)

      go : Order (record_in a i) (record_in b j) → Turn a b at (side_of (rest_of a i) (rest_of b j))
      go (less e) = subst (Turn a b at) (next_first a b i j h k e)
          (at_first h (λ _. goes_before_lem _ _ e) (here ∙ merged_first _ _ l m e ∙ ap (λ t. record_in a i ∷ merged l t) (sym (rest_more b j k))))
      go (more e d) = subst (Turn a b at) (next_second a b i j h k e d)
          (at_second k (λ _. goes_before_lem _ _ d) (here ∙ merged_second _ _ l m e d ∙ ap (λ t. record_in b j ∷ merged t m) (sym (rest_more a i h))))
      go (same e d q) = subst (Turn a b at) (next_both a b i j h k e d) (at_both h k q (here ∙ merged_both _ _ l m e d))

  no_first : i ≡ count_in a → j < count_in b → Turn a b at (side_of (rest_of a i) (rest_of b j))
  no_first e k =
      let z : rest_of a i ≡ [] = rest_none a i e in
      subst (Turn a b at) (next_no_first a b i j e)
      (at_second k (λ h. absurd (omega arith)) (ap (λ t. merged t (rest_of b j)) z ∙ merged_none (rest_of b j) ∙ rest_more b j k
      ∙ ap (λ t. record_in b j ∷ t) (sym (merged_none (rest_of b (j + 1))) ∙ ap (λ t. merged t (rest_of b (j + 1))) (sym z))))

  no_second : i < count_in a → j ≡ count_in b → Turn a b at (side_of (rest_of a i) (rest_of b j))
  no_second h e =
      let z : rest_of b j ≡ [] = rest_none b j e in
      subst (Turn a b at) (next_no_second a b i j h e)
      (at_first h (λ k. absurd (omega arith)) (ap (merged (rest_of a i)) z ∙ merged_nil (rest_of a i) ∙ rest_more a i h
      ∙ ap (λ t. record_in a i ∷ t) (sym (merged_nil (rest_of a (i + 1))) ∙ ap (merged (rest_of a (i + 1))) (sym z))))

  pub turn : Within a b at → (i < count_in a) ⊎ (j < count_in b) → Turn a b at (side_of (rest_of a i) (rest_of b j))
  turn w o = ⊎_elim
      (λ e. no_first e (⊎_elim (λ h. absurd (omega arith)) (λ h. h) o))
      (λ h. ⊎_elim (no_second h) (turn_both h) (last_or j (count_in b) (omega (arith, w.second_within))))
      (last_or i (count_in a) (omega (arith, w.first_within)))

-- ---- what a step asks and leaves

module _ (a b : List ℕ) (at : Cursors) where
  pub turn_held : (side : Side) → Turn a b at side → Held a b at side
  turn_held First (at_first h o e) = h
  turn_held Second (at_second h o e) = h
  turn_held Both (at_both h k o e) = (h, k)

  pub turn_within : (side : Side) → Within a b at → Turn a b at side → Within a b (passed at side)
  unfolding passed
  turn_within First w (at_first h o e) = record { first_within = omega arith; second_within = w.second_within }
  turn_within Second w (at_second h o e) = record { first_within = w.first_within; second_within = omega arith }
  turn_within Both w (at_both h k o e) = record { first_within = omega arith; second_within = omega arith }

  pub turn_merged : (side : Side) → Turn a b at side
      → merged (rest_of a at.first) (rest_of b at.second) ≡ next_record a b at side ∷ merged (rest_of a (passed at side).first) (rest_of b (passed at side).second)
  unfolding passed next_record
  turn_merged First (at_first h o e) = e
  turn_merged Second (at_second h o e) = e
  turn_merged Both (at_both h k o e) = e

  -- fewer records are left
  pub turn_less : (side : Side) → Turn a b at side
      → (count_in a - (passed at side).first) + (count_in b - (passed at side).second) < (count_in a - at.first) + (count_in b - at.second)
  unfolding passed
  turn_less First (at_first h o e) = omega arith
  turn_less Second (at_second h o e) = omega arith
  turn_less Both (at_both h k o e) = omega arith
