-- `patch_text::read::pixel` meets its contract. Assumes nothing.
use lib.Dec.{eqb}
use borrow.Author.Tests.{eq-eqb, ne_eqb}
use Rattle.base.proofs.Pick.{pick_yes, pick_no}
use Rattle.patch_text.specs.Text.{hash}
use Rattle.patch_text.specs.Steps.{pixel_of}
use Rattle.patch_text.proofs.read.pixel.Goals as goal

pub returns-then-byte-eq35 : goal.returns-then-byte-eq35
unfolding pixel_of
returns-then-byte-eq35 c =
    let a = c.args in
    pick_yes (eqb a.byte hash) 1 0 (eq-eqb a.byte hash c.if-byte-eq35.true)

pub returns-else-byte-eq35 : goal.returns-else-byte-eq35
unfolding pixel_of
returns-else-byte-eq35 c =
    let a = c.args in
    pick_no (eqb a.byte hash) 1 0 (ne_eqb a.byte hash c.if-byte-eq35.false)
