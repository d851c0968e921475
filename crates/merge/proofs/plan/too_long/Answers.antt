-- `merge::plan::too_long` meets its contract. Assumes nothing.
-- 16 + 120 * 35,791,393 is below 2^32, and 120 more is above
use borrow.Author.Tests.{lt-ltb, ltb-true}
use native.Mathlib.Omega.{arith}
use mathlib.Core.Path.{◌≡◌}
use Prim.Native.Nat.{ℕ}
use lib.Dec.{ltb}
use Rattle.base.proofs.Tests.{same_test}
use Rattle.book.specs.Layout.{book_length}
use Rattle.merge.proofs.plan.too_long.Goals as goal

same : (n : ℕ) → ltb 35791393 n ≡ ltb 4294967295 (book_length n)
same n = same_test (ltb 35791393 n) (ltb 4294967295 (book_length n))
    (λ e. lt-ltb 4294967295 (book_length n) (omega (arith, ltb-true 35791393 n e)))
    (λ e. lt-ltb 35791393 n (omega (arith, ltb-true 4294967295 (book_length n) e)))

pub returns : goal.returns
returns c = same c.args.count
