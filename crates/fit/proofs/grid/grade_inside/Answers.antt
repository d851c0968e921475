-- `fit::grid::grade_inside` meets its contract. Assumes nothing.
use borrow.Author.Tests.{lt-ltb, le-ltb}
use Rattle.base.proofs.Pick.{pick_yes, pick_no}
use Rattle.fit.specs.declared.Grade.TheVariants.{Score}
use mathlib.Core.Path.{ap, ◌∙◌}
use Rattle.fit.proofs.grid.grade_inside.Goals as goal

pub returns-then-means-lt16 : goal.returns-then-means-lt16
returns-then-means-lt16 c = pick_yes _ _ _ (lt-ltb _ _ c.if-means-lt16.true)

pub returns : goal.returns
returns c = ap Score c.fisher.ensures ∙ pick_no _ _ _ (le-ltb _ _ c.if-means-lt16.false)
