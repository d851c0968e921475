-- `book::writer::put_numbers` meets its contract. The loop's invariant: the first i numbers are written. Assumes nothing.
use mathlib.Core.Path.{◌≡◌}
use Rattle.base.specs.Loops.{joined}
use Rattle.base.proofs.Over.{over}
use Rattle.book.specs.Layout.{number_bytes}
use Rattle.book.proofs.writer.put_numbers.Given as goal

abbrev pub invariant-loop-i : goal.invariant-loop-i
invariant-loop-i l = l.area ≡ over (joined (number_bytes l.width l.numbers) l.i) l.initial.area
