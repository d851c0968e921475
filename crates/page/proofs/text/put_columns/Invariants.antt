-- `page::text::put_columns` meets its contract. Assumes nothing.
use mathlib.Core.List.{◌++◌}
use mathlib.Core.Path.{◌≡◌}
use lib.ListN.{length, drop}
use Rattle.page.specs.Text.{columns}
use Rattle.page.specs.Steps.{letter_of}
use Rattle.page.proofs.text.put_columns.Given as goal

abbrev pub invariant-loop-k : goal.invariant-loop-k
invariant-loop-k l = columns (letter_of l.pad) (length l.initial.area) l.initial.q ≡ columns (letter_of l.pad) l.k l.q ++ drop l.k l.area
