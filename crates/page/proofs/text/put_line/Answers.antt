-- `page::text::put_line` meets its contract. Assumes nothing.
use native.Mathlib.Omega.{arith}
use mathlib.Core.Path.{◌≡◌, sym}
use lib.ListN.{length}
use Rattle.page.specs.Amounts.{units_of}
use Rattle.page.specs.Text.{blank, feed, line_of}
use Rattle.base.proofs.Over.{part_whole}
use Rattle.page.proofs.text.Written.{line_first, line_next}
use Rattle.page.proofs.text.put_line.Goals as goal

pub returns : goal.returns
unfolding line_of
returns c =
    let a = c.args in
    let l = a.line.now in
    let long : length l ≡ 37 = c.requires.0 in
    let p0 = line_first l c.put_whole.new.area a.rank 5 (omega arith) (omega arith) c.put_whole.ensures in
    let p1 =
    line_next _ l _ c.put_field.new.area 5 14 2 _ (units_of 100 a.row.x) blank p0 (omega arith) (omega arith)
    c.units.ensures c.put_field.ensures in
    let p2 =
    line_next _ l _ c.put_field-2.new.area 14 23 2 _ (units_of 100 a.row.y) blank p1 (omega arith) (omega arith)
    c.units-2.ensures c.put_field-2.ensures in
    let p3 =
    line_next _ l _ c.put_field-3.new.area 23 31 2 _ (units_of 100 a.row.size) blank p2 (omega arith) (omega arith)
    c.units-3.ensures c.put_field-3.ensures in
    let p4 =
    line_next _ l _ c.put_field-4.new.area 31 37 3 _ (units_of 1000 a.row.score) feed p3 (omega arith) (omega arith)
    c.units-4.ensures c.put_field-4.ensures in
    part_whole _ l _ 37 p4 (sym long)
