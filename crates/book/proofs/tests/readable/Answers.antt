-- `book::tests::readable` meets its contract. Assumes nothing.
use native.Mathlib.Omega.{arith}
use mathlib.Core.Path.{◌≡◌, sym, ap, ◌∙◌}
use Rattle.std.specs.Prelude.{Ok}
use Rattle.std.proofs.lemmas.Result.{err_from_is_err_and}
use Rattle.book.specs.Layout.{count_in}
use Rattle.book.specs.Promises.{book_tests, read_tests}
use Rattle.book.proofs.Refusing.{read_heads_give, read_numbers_give, read_none_gives}
use Rattle.book.proofs.Tested.{value_given, refused_before}
use Rattle.book.proofs.tests.readable.Goals as goal

pub returns-in_err-count-clause-given : goal.returns-in_err-count-clause-given
unfolding read_tests
returns-in_err-count-clause-given c =
    let b = c.args.book.now in
    let p = err_from_is_err_and c.from_residual.result c.from_residual.ensures.1 in
    rw (p.1, p.2) (sym (refused_before (book_tests b) _ (count_in b) (count_in b) (sym c.in_err-count.ensures.given)))

pub returns-then-heads-count-clause-given : goal.returns-then-heads-count-clause-given
returns-then-heads-count-clause-given c =
    let e = c.in_ok-count.ensures.given in
    let n : c.in_ok-count.count ≡ count_in c.args.book.now = value_given _ _ (sym e) in
    read_heads_give _ _ _ _ (sym e) (omega arith)

pub returns-then-numbers-count-clause-given : goal.returns-then-numbers-count-clause-given
returns-then-numbers-count-clause-given c =
    let e = c.in_ok-count.ensures.given in
    let n : c.in_ok-count.count ≡ count_in c.args.book.now = value_given _ _ (sym e) in
    read_numbers_give _ _ _ _ (sym e) (omega arith)

pub returns : goal.returns
returns c =
    let e = c.in_ok-count.ensures.given in
    let n : c.in_ok-count.count ≡ count_in c.args.book.now = value_given _ _ (sym e) in
    record {
      given = ap Ok n ∙ read_none_gives _ _ _ _ (sym e) (omega arith) (omega arith);
      held = record { whole = c.in_ok-count.ensures.whole; heads_held = omega arith; numbers_held = omega arith };
    }
