-- `book::writer::put_book` meets its contract. Assumes nothing.
use native.Mathlib.Omega.{arith}
use mathlib.Core.List.{◌++◌}
use mathlib.Core.Path.{refl, ap, ◌∙◌}
use Prim.Native.Nat.{◌≤◌}
use lib.ListN.{length, drop}
use Rattle.base.proofs.Parts.{drop_later, lent_rest}
use Rattle.book.specs.Layout.{book_length, record_bytes}
use Rattle.book.proofs.Written.{book_begin, book_next, book_end}
use Rattle.book.proofs.writer.put_book.Goals as goal

pub loop-j-init : goal.loop-j-init
loop-j-init c = book_begin _ _ _ c.args.book.now c.put_header.ensures

pub loop-j-preserved : goal.loop-j-preserved
loop-j-preserved c =
    let k = c.loop-j in
    book_next _ _ _ k.book c.put_record.new.area k.j k.invariant (c.put_record.ensures ∙ ap record_bytes c.record_at-kept.ensures)

pub returns : goal.returns
returns c =
    let k = c.loop-j in
    let h = c.put_header in
    let b = c.args.book.now in
    let n = c.args.count in
    let whole : 16 ≤ length b = omega (arith, c.requires.room_held) in
    let rest = drop_later 16 (book_length n) (h.new.area ++ drop 16 b) b (omega arith) (lent_rest h.new.area b 16 16 whole h.auto.area refl) in
    book_end _ n _ k.book b k.j k.invariant (omega arith) rest
