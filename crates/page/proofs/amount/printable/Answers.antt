-- `page::amount::printable` meets its contract. Assumes nothing.
use mathlib.Core.Path.{ap, ◌∙◌}
use lib.Dec.{leb}
use lib.Ieee.{of_bits, of_int}
use Rattle.page.proofs.Amounts.{not_negative, not_narrow, narrow_below, printable_is}
use Rattle.page.specs.Steps.{Narrow}
use Rattle.page.proofs.amount.printable.Goals as goal

pub returns-then-x : goal.returns-then-x
unfolding of_bits of_int
returns-then-x c = not_negative _ _ _ c.if-x.true

pub units-requires : goal.units-requires
unfolding of_bits of_int
units-requires c =
    let narrow : Narrow c.args.x = narrow_below _ c.if-x.false c.if-x-2.true in
    (narrow, c.requires.0)

pub returns-then-x-2 : goal.returns-then-x-2
unfolding of_bits of_int
returns-then-x-2 c =
    let narrow : Narrow c.args.x = narrow_below _ c.if-x.false c.if-x-2.true in
    ap (λ q. leb q c.args.most) c.units.ensures
    ∙ printable_is c.args.scale c.args.most c.args.x (narrow) c.if-x.false

pub returns : goal.returns
unfolding of_bits
returns c = not_narrow _ _ c.requires.1 _ c.if-x-2.false
