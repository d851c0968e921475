-- `book::tests::writable` meets its contract. Assumes nothing.
use borrow.Author.Rules.{rules}
use native.Mathlib.Omega.{arith}
use mathlib.Core.Bool.{true}
use mathlib.Core.Path.{◌≡◌, sym, ◌∙◌}
use Rattle.book.specs.Layout.{key_at}
use Rattle.book.specs.Promises.{grades_held}
use Rattle.book.proofs.Refusing.{Lent, heads_give, numbers_give, book_gives, total_gives, grades_give, unsorted_gives, sorted_gives}
use Rattle.book.proofs.tests.writable.Goals as goal

pub returns-then-heads-count-clause-given : goal.returns-then-heads-count-clause-given
returns-then-heads-count-clause-given c = heads_give _ _ _ _ _ c.if-heads-count.true

pub returns-then-numbers-count-clause-given : goal.returns-then-numbers-count-clause-given
returns-then-numbers-count-clause-given c = numbers_give _ _ _ _ _ c.if-numbers-count.true

pub returns-then-book-lt-HEADER_LENGTH-clause-given : goal.returns-then-book-lt-HEADER_LENGTH-clause-given
returns-then-book-lt-HEADER_LENGTH-clause-given c = book_gives _ _ _ _ _ (omega arith)

pub returns-then-book-count-clause-given : goal.returns-then-book-count-clause-given
returns-then-book-count-clause-given c = book_gives _ _ _ _ _ (omega arith)

pub returns-then-count-gt-MOST_RECORDS-clause-given : goal.returns-then-count-gt-MOST_RECORDS-clause-given
returns-then-count-gt-MOST_RECORDS-clause-given c =
    let lent : let a = c.args in Lent a.heads.now a.numbers.now a.count a.book.now = record { heads_held = omega arith; numbers_held = omega arith; headed = omega arith; book_held = omega arith } in
    total_gives _ _ _ _ _ lent c.if-count-gt-MOST_RECORDS.true

pub returns-then-not-grades_held-clause-given : goal.returns-then-not-grades_held-clause-given
returns-then-not-grades_held-clause-given c =
    let lent : let a = c.args in Lent a.heads.now a.numbers.now a.count a.book.now = record { heads_held = omega arith; numbers_held = omega arith; headed = omega arith; book_held = omega arith } in
    grades_give _ _ _ _ _ lent (sym c.grades_held.ensures ∙ c.if-not-grades_held.true)

pub returns-then-not-keys_rise-clause-given : goal.returns-then-not-keys_rise-clause-given
returns-then-not-keys_rise-clause-given c =
    let lent : let a = c.args in Lent a.heads.now a.numbers.now a.count a.book.now = record { heads_held = omega arith; numbers_held = omega arith; headed = omega arith; book_held = omega arith } in
    let g : grades_held c.args.heads.now c.args.count ≡ true = sym c.grades_held.ensures ∙ c.if-not-grades_held.false in
    let k = c.keys_rise.ensures (key_at c.args.heads.now) (λ j k l p. search rules) in
    unsorted_gives _ _ _ _ _ lent c.if-count-gt-MOST_RECORDS.false g (sym k ∙ c.if-not-keys_rise.true)

pub returns : goal.returns
returns c =
    let lent : let a = c.args in Lent a.heads.now a.numbers.now a.count a.book.now = record { heads_held = omega arith; numbers_held = omega arith; headed = omega arith; book_held = omega arith } in
    let g : grades_held c.args.heads.now c.args.count ≡ true = sym c.grades_held.ensures ∙ c.if-not-grades_held.false in
    let k = c.keys_rise.ensures (key_at c.args.heads.now) (λ j k l p. search rules) in
    record {
      given = sorted_gives _ _ _ _ _ lent c.if-count-gt-MOST_RECORDS.false g (sym k ∙ c.if-not-keys_rise.false);
      held = record { heads_held = omega arith; numbers_held = omega arith; room_held = omega arith; total_held = omega arith };
    }
