-- The plan of the records that are passed: how many keys they have, and whether one has other bytes in the other book.
-- Assumes nothing.
use Prim.Native.Nat.{ℕ, ◌+◌, ◌≤◌, ◌<◌}
use mathlib.Core.Path.{◌≡◌, sym, ap, subst, ◌∙◌}
use mathlib.Core.Bool.{Bool, true, false, not, ◌&&◌, ◌||◌, and-true, or-false}
use mathlib.Core.Logic.{◌⊎◌, inl, inr, ⊎_elim}
use mathlib.Core.List.{List, []}
use native.Mathlib.Omega.{arith}
use lib.ListN.{length}
use Rattle.base.specs.Loops.{every}
use Rattle.base.proofs.Arith.{last_or, le_or_lt}
use Rattle.base.proofs.Every.{every_begin, every_suc, every_one, one_every}
use Rattle.base.proofs.Tests.{or_nots, same_test}
use Rattle.book.specs.Layout.{count_in}
use Rattle.book.specs.Meaning.{Before}
use Rattle.book.proofs.Meaning.{before_trans}
use Rattle.merge.specs.Merged.{record_in, key_of, Accepted, merged, size, same_record, agree, differs}
use Rattle.merge.specs.Steps.{Within, rest_of, passed, clash, counted}
use Rattle.merge.specs.declared.plan.Plan.{Plan}
use Rattle.merge.specs.declared.walk.Cursors.{Cursors}
use Rattle.merge.specs.declared.walk.Side.{Side}
use Rattle.merge.specs.declared.walk.Side.TheVariants.{First, Second, Both}
use Rattle.merge.proofs.Keys.{before_other}
use Rattle.merge.proofs.Merging.{merged_none}
use Rattle.merge.proofs.Books.{record_rise}
use Rattle.merge.proofs.Joining.{row, agree_other, agree_same}
use Rattle.merge.proofs.Walks.{rest_none, Turn}
use Rattle.merge.proofs.Walks.Turn.{at_first, at_second, at_both}

pub record Planned (a b : List ℕ) (at : Cursors) (p : Plan) : Type 0 where
  pub within : Within a b at
  pub count_is : p.count + length (merged (rest_of a at.first) (rest_of b at.second)) ≡ size a b
  pub differs_is : p.differs ≡ not (every at.first (row a b))
  -- what is passed of b goes before what is left of a
  pub below : (j : ℕ) → j < at.second → at.first < count_in a → Before (key_of (record_in b j)) (key_of (record_in a at.first))
  pub few : p.count ≤ at.first + at.second

pub planned_begin : (a b : List ℕ) → Planned a b (record { first = 0; second = 0 }) (record { count = 0; differs = false })
planned_begin a b = record {
  within = record { first_within = omega arith; second_within = omega arith };
  count_is = unfold size in omega arith;
  differs_is = sym (ap not (every_begin (row a b)));
  below = λ j h k. absurd (omega arith);
  few = omega arith;
}

module _ (a b : List ℕ) (A : Accepted a) (B : Accepted b) where
  -- a key that no record of b has
  row_other : (i : ℕ) → ((j : ℕ) → j < count_in b → key_of (record_in a i) ≡ key_of (record_in b j) → ⊥) → row a b i ≡ true
  row_other i h = one_every _ (count_in b) (λ j k. agree_other (record_in a i) (record_in b j) (h j k))

  -- a key that record j of b has, and no other
  row_same : (i j : ℕ) → j < count_in b → key_of (record_in a i) ≡ key_of (record_in b j)
      → ((k : ℕ) → k < count_in b → (k ≡ j → ⊥) → key_of (record_in a i) ≡ key_of (record_in b k) → ⊥) → row a b i ≡ same_record (record_in a i) (record_in b j)
  row_same i j h e other = same_test (row a b i) (same_record (record_in a i) (record_in b j)) some all
    where
      some : row a b i ≡ true → same_record (record_in a i) (record_in b j) ≡ true
      some t = sym (agree_same (record_in a i) (record_in b j) e) ∙ every_one _ (count_in b) t j h

      all : same_record (record_in a i) (record_in b j) ≡ true → row a b i ≡ true
      all t = one_every _ (count_in b) (λ k l. each k l (places k j))
        where
          places : (k j : ℕ) → (k ≡ j) ⊎ ((k < j) ⊎ (j < k))
          places k j = ⊎_elim (λ l. ⊎_elim inl (λ m. inr (inl m)) (last_or k j (omega arith))) (λ l. inr (inr l)) (le_or_lt k j)

          each : (k : ℕ) → k < count_in b → (k ≡ j) ⊎ ((k < j) ⊎ (j < k)) → agree (record_in a i) (record_in b k) ≡ true
          each k l (inl d) = ap (λ n. agree (record_in a i) (record_in b n)) d ∙ agree_same (record_in a i) (record_in b j) e ∙ t
          each k l (inr (inl m)) = agree_other (record_in a i) (record_in b k) (other k l (λ d. omega arith))
          each k l (inr (inr m)) = agree_other (record_in a i) (record_in b k) (other k l (λ d. omega arith))

  -- from record j of b on, the keys are those of j and above
  from_on : (j k : ℕ) → j ≤ k → k < count_in b → (j ≡ k) ⊎ Before (key_of (record_in b j)) (key_of (record_in b k))
  from_on j k h l = ⊎_elim inl (λ m. inr (record_rise b B j k m l)) (last_or j k (omega arith))

  module _ (at : Cursors) (p : Plan) (P : Planned a b at p) where
    abbrev i : ℕ
    i = at.first

    abbrev j : ℕ
    j = at.second

    -- a key of the first alone
    row_first : i < count_in a → (j < count_in b → Before (key_of (record_in a i)) (key_of (record_in b j))) → row a b i ≡ true
    row_first h o = row_other i (λ k l e. ⊎_elim
        (λ m. ⊎_elim
        (λ d. before_other _ _ (o (omega arith)) (e ∙ ap (λ n. key_of (record_in b n)) (sym d)))
        (λ d. before_other _ _ (before_trans _ (key_of (record_in b j)) _ (o (omega arith)) d) e)
        (from_on j k m l))
        (λ m. before_other _ _ (P.below k m h) (sym e))
        (le_or_lt j k))

    -- a key of both
    row_both : i < count_in a → (k : j < count_in b) → key_of (record_in a i) ≡ key_of (record_in b j) → row a b i ≡ same_record (record_in a i) (record_in b j)
    row_both h k e = row_same i j k e (λ n l other d. ⊎_elim
        (λ m. ⊎_elim (λ q. other (sym q)) (λ q. before_other _ _ q (sym e ∙ d)) (from_on j n m l))
        (λ m. before_other _ _ (P.below n m h) (sym d))
        (le_or_lt j n))

    -- the next of the first goes behind what this one goes behind
    below_first : (k : ℕ) → i + 1 < count_in a → Before (key_of (record_in b k)) (key_of (record_in a i)) → Before (key_of (record_in b k)) (key_of (record_in a (i + 1)))
    below_first k h l = before_trans _ (key_of (record_in a i)) _ l (record_rise a A i (i + 1) (omega arith) h)

    below_both : (k : ℕ) → k < j + 1 → (k ≡ j → Before (key_of (record_in b k)) (key_of (record_in a (i + 1)))) → i < count_in a → i + 1 < count_in a
        → Before (key_of (record_in b k)) (key_of (record_in a (i + 1)))
    below_both k l f h m = ⊎_elim f (λ q. below_first k m (P.below k q h)) (last_or k j (omega arith))

    -- both records have the same bytes
    abbrev both_same : Bool
    both_same = same_record (record_in a i) (record_in b j)

    -- one row more
    row_more : (t : Bool) → row a b i ≡ t → every (i + 1) (row a b) ≡ (every i (row a b) && t)
    row_more t e = every_suc (row a b) i ∙ ap (λ u. every i (row a b) && u) e

    pub planned_next : (side : Side) → Turn a b at side → Planned a b (passed at side) (counted a b at side p)
    unfolding passed counted clash
    planned_next First (at_first h o e) = record {
      within = record { first_within = omega arith; second_within = P.within.second_within };
      count_is = omega (arith, P.count_is, ap length e);
      differs_is = or-false p.differs ∙ P.differs_is ∙ ap not (sym (row_more true (row_first h o) ∙ and-true (every i (row a b))));
      below = λ k l m. below_first k m (P.below k l h);
      few = omega (arith, P.few);
    }
    planned_next Second (at_second h o e) = record {
      within = record { first_within = P.within.first_within; second_within = omega arith };
      count_is = omega (arith, P.count_is, ap length e);
      differs_is = or-false p.differs ∙ P.differs_is;
      below = λ k l m. ⊎_elim (λ q. subst (λ n. Before (key_of (record_in b n)) (key_of (record_in a i))) (sym q) (o m)) (λ q. P.below k q m) (last_or k j (omega arith));
      few = omega (arith, P.few);
    }
    planned_next Both (at_both h k o e) = record {
      within = record { first_within = omega arith; second_within = omega arith };
      count_is = omega (arith, P.count_is, ap length e);
      differs_is = ap (λ t. t || not both_same) P.differs_is ∙ or_nots (every i (row a b)) both_same ∙ ap not (sym (row_more both_same (row_both h k o)));
      below = λ n l m. below_both n l (λ q. subst (λ x. Before x (key_of (record_in a (i + 1)))) (o ∙ ap (λ d. key_of (record_in b d)) (sym q)) (record_rise a A i (i + 1) (omega arith) m)) h m;
      few = omega (arith, P.few);
    }

-- all are passed
pub planned_end : (a b : List ℕ) (at : Cursors) (p : Plan) → Planned a b at p → at.first ≡ count_in a → at.second ≡ count_in b
    → (p.count ≡ size a b) × (p.differs ≡ differs a b)
unfolding differs
planned_end a b at p P e d =
    let z : merged (rest_of a at.first) (rest_of b at.second) ≡ [] =
    ap (λ l. merged l (rest_of b at.second)) (rest_none a at.first e) ∙ merged_none (rest_of b at.second) ∙ rest_none b at.second d in
    (omega (arith, P.count_is, ap length z), P.differs_is ∙ ap (λ n. not (every n (row a b))) e)
