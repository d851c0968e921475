-- `book::FitRecord::fit` meets its contract. Assumes nothing.
use borrow.Author.Rules.{rules}
use mathlib.Core.Path.{ap, ◌∙◌}
use lib.Ieee.{nan}
use Rattle.base.proofs.Table.{table_is}
use Rattle.fit.specs.Numbers.{fit_of}
use Rattle.book.specs.Layout.{fit_in}
use Rattle.book.proofs.FitRecord.fit.Goals as goal

pub returns : goal.returns
unfolding fit_in
returns c =
    c.fit_of.ensures
    ∙ ap fit_of (table_is _ 13 nan c.map.result c.map.ensures.items.long (λ k h. let e = c.map.ensures.items.at k 0 nan h in search rules))
