-- `fit::numbers::fit_numbers` meets its contract. Assumes nothing.
use borrow.Author.Rules.{rules}
use Rattle.fit.specs.Numbers.{fit_numbers, matrix_numbers, lens_numbers}
use Rattle.fit.proofs.numbers.fit_numbers.Goals as goal

pub returns : goal.returns
unfolding fit_numbers matrix_numbers lens_numbers
returns c = search rules
