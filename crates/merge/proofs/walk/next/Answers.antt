-- `merge::walk::next` meets its contract. Assumes nothing.
use native.Mathlib.Omega.{arith}
use mathlib.Core.Logic.{⊎_elim}
use mathlib.Core.List.{List}
use mathlib.Core.Path.{◌≡◌, sym, subst, ◌∙◌}
use Rattle.std.proofs.Common.{Ordering, Less, Equal, Greater}
use Rattle.std.specs.Ordering.{MatchOrdering, nat_cmp, ordering_then}
use Prim.Native.Nat.{ℕ, ◌+◌, ◌≤◌, ◌<◌}
use Rattle.base.proofs.Arith.{last_or}
use Rattle.book.specs.Layout.{book_length, count_in, key_in}
use Rattle.book.specs.Meaning.{Before}
use Rattle.book.specs.declared.keys.Key.{Key}
use Rattle.merge.proofs.Keys.{compared}
use Rattle.merge.proofs.Walks.{next_no_first, next_no_second, next_less, next_more, next_same}
use Rattle.merge.proofs.walk.next.Goals as goal

pub returns-then-at-count : goal.returns-then-at-count
returns-then-at-count c =
    let s = c.args in
    next_no_first s.first.now s.second.now s.at.first s.at.second (c.if-at-count.true ∙ c.count.ensures.0)

-- not at the end of a book
inside : (i n m : ℕ) → i ≤ n → m ≡ n → (i ≡ m → ⊥) → i < n
inside i n m h e d = ⊎_elim (λ q. absurd (d (q ∙ sym e))) (λ q. q) (last_or i n (omega arith))

pub returns-then-at-count-2 : goal.returns-then-at-count-2
returns-then-at-count-2 c =
    let first_left : c.args.at.first < count_in c.args.first.now = inside _ _ _ c.requires.1.first_within c.count.ensures.0 c.if-at-count.false in
    next_no_second _ _ _ _ (first_left) (c.if-at-count-2.true ∙ c.count-2.ensures.0)

held : (i n l : ℕ) → l ≡ book_length n → i < n → book_length (i + 1) ≤ l
held i n l e h = omega arith

pub key_in-requires : goal.key_in-requires
key_in-requires c = held _ _ _ c.requires.0.first_whole (inside _ _ _ c.requires.1.first_within c.count.ensures.0 c.if-at-count.false)

pub key_in-requires-2 : goal.key_in-requires-2
key_in-requires-2 c = held _ _ _ c.requires.0.second_whole (inside _ _ _ c.requires.1.second_within c.count-2.ensures.0 c.if-at-count-2.false)

-- the keys that are compared
keys : (a b : List ℕ) (i j : ℕ) (x y : Key) (o : Ordering) → x ≡ key_in a i → y ≡ key_in b j → o ≡ ordering_then (nat_cmp x.panel y.panel) (nat_cmp x.camera y.camera)
    → MatchOrdering o (Before (key_in a i) (key_in b j)) (key_in a i ≡ key_in b j) (Before (key_in b j) (key_in a i))
keys a b i j x y o e d h = subst (λ z. MatchOrdering o (Before z (key_in b j)) (z ≡ key_in b j) (Before (key_in b j) z)) e
    (subst (λ z. MatchOrdering o (Before x z) (x ≡ z) (Before z x)) d (compared x y o h))

pub returns-in-Less : goal.returns-in-Less
returns-in-Less c =
    let second_left : c.args.at.second < count_in c.args.second.now = inside _ _ _ c.requires.1.second_within c.count-2.ensures.0 c.if-at-count-2.false in
    let first_left : c.args.at.first < count_in c.args.first.now = inside _ _ _ c.requires.1.first_within c.count.ensures.0 c.if-at-count.false in
    next_less _ _ _ _ first_left second_left c.requires.0 (keys _ _ _ _ _ _ Less c.key_in.ensures c.key_in-2.ensures c.in-Less.ensures)

pub returns-in-Equal : goal.returns-in-Equal
returns-in-Equal c =
    let second_left : c.args.at.second < count_in c.args.second.now = inside _ _ _ c.requires.1.second_within c.count-2.ensures.0 c.if-at-count-2.false in
    let first_left : c.args.at.first < count_in c.args.first.now = inside _ _ _ c.requires.1.first_within c.count.ensures.0 c.if-at-count.false in
    next_same _ _ _ _ first_left second_left c.requires.0 (keys _ _ _ _ _ _ Equal c.key_in.ensures c.key_in-2.ensures c.in-Equal.ensures)

pub returns-in-Greater : goal.returns-in-Greater
returns-in-Greater c =
    let second_left : c.args.at.second < count_in c.args.second.now = inside _ _ _ c.requires.1.second_within c.count-2.ensures.0 c.if-at-count-2.false in
    let first_left : c.args.at.first < count_in c.args.first.now = inside _ _ _ c.requires.1.first_within c.count.ensures.0 c.if-at-count.false in
    next_more _ _ _ _ first_left second_left c.requires.0 (keys _ _ _ _ _ _ Greater c.key_in.ensures c.key_in-2.ensures c.in-Greater.ensures)
