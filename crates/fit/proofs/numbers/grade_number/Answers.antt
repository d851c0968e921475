-- `fit::numbers::grade_number` meets its contract. Assumes nothing.
use Rattle.fit.specs.Numbers.{grade_number}
use borrow.Author.Rules.{rules}
use Rattle.fit.proofs.numbers.grade_number.Goals as goal

pub returns-in-Score : goal.returns-in-Score
unfolding grade_number
returns-in-Score c = search rules

pub returns-in-Outside : goal.returns-in-Outside
unfolding grade_number
returns-in-Outside c = search rules

pub returns-in-TooFew : goal.returns-in-TooFew
unfolding grade_number
returns-in-TooFew c = search rules
