-- `book::writer::put_book` meets its contract. The loop's invariant: the header and the first j records are written. Assumes nothing.
use mathlib.Core.List.{◌++◌}
use mathlib.Core.Path.{◌≡◌}
use Rattle.base.specs.Loops.{joined}
use Rattle.base.proofs.Over.{over}
use Rattle.book.specs.Layout.{header, record_bytes, record_at}
use Rattle.book.proofs.writer.put_book.Given as goal

abbrev pub invariant-loop-j : goal.invariant-loop-j
invariant-loop-j l = l.book ≡ over (header l.count ++ joined (λ i. record_bytes (record_at l.heads l.numbers i)) l.j) l.initial.book
