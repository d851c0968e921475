-- `book::tests::header_wrong` meets its contract. Assumes nothing.
use Rattle.base.proofs.Tests.{or_first}
use borrow.Author.Tests.{lt-ltb}
use Rattle.book.proofs.Refusing.{header_is}
use Rattle.book.specs.Promises.{header_wrong}
use mathlib.Core.Path.{sym}
use Rattle.book.proofs.tests.header_wrong.Goals as goal

pub returns-then-book-lt-HEADER_LENGTH : goal.returns-then-book-lt-HEADER_LENGTH
unfolding header_wrong
returns-then-book-lt-HEADER_LENGTH c = sym (or_first _ _ (lt-ltb _ _ c.if-book-lt-HEADER_LENGTH.true))

pub returns : goal.returns
returns c =
    header_is _ _ _ _ _ c.if-book-lt-HEADER_LENGTH.false c.u32_at-count.ensures c.u32_at-offset.ensures c.u32_at-length.ensures c.u32_at-total.ensures
