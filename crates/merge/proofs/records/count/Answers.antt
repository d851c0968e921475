-- `merge::records::count` meets its contract. Assumes nothing.
use native.Mathlib.Omega.{arith}
use Rattle.book.specs.Layout.{count_in}
use Rattle.merge.proofs.records.count.Goals as goal

pub returns : goal.returns
unfolding count_in
returns c = (c.u32_at.ensures, omega arith)
