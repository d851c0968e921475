-- `book::record_of` meets its contract. Assumes nothing.
use borrow.Author.Rules.{rules}
use native.Mathlib.Omega.{arith}
use mathlib.Core.Path.{◌≡◌, ap}
use Prim.Native.Nat.{◌≤◌}
use lib.Ieee.{nan, binary64, to_bits}
use lib.ListN.{get_or}
use Rattle.base.specs.Loops.{table}
use Rattle.base.proofs.Table.{table_is}
use Rattle.fit.specs.Numbers.{grade_number}
use Rattle.fit.specs.declared.Grade.{Grade}
use Rattle.fit.specs.declared.Grade.TheVariants.{Score, Outside, TooFew}
use Rattle.book.specs.Layout.{record_of}
use Rattle.book.proofs.record_of.Goals as goal

-- a grade's number fits 32 bits
grade_below : (g : Grade) → grade_number g ≤ 2
unfolding grade_number
grade_below (Score s) = omega arith
grade_below (Outside cell) = omega arith
grade_below TooFew = omega arith

pub overflow_cast-result : goal.overflow_cast-result
overflow_cast-result c = omega (arith, c.grade_number.ensures, grade_below c.args.grade)

pub returns : goal.returns
unfolding record_of
returns c =
    let l : c.map.result ≡ table (λ i. to_bits binary64 (get_or c.fit_numbers.result i nan)) 13 =
    table_is _ 13 0 c.map.result c.map.ensures.items.long (λ k h. let e = c.map.ensures.items.at k nan 0 h in search rules) in
    let e = ap (λ l. table (λ i. to_bits binary64 (get_or l i nan)) 13) c.fit_numbers.ensures in
    cc
