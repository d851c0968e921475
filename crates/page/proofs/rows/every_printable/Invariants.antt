-- `page::rows::every_printable` meets its contract. Assumes nothing.
use mathlib.Core.Path.{◌≡◌}
use mathlib.Core.Bool.{true}
use Rattle.page.specs.Promises.{every_printable}
use Rattle.page.proofs.rows.every_printable.Given as goal

abbrev pub invariant-loop-i : goal.invariant-loop-i
invariant-loop-i l = every_printable l.candidates l.i ≡ true
