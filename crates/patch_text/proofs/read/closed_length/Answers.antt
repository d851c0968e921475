-- `patch_text::read::closed_length` meets its contract. Assumes nothing.
use Prim.Native.Nat.{◌+◌, ◌-◌}
use lib.Dec.{eqb}
use lib.ListN.{length, get_or}
use borrow.Author.Tests.{eq-eqb, ne_eqb}
use Rattle.base.proofs.Pick.{pick_yes, pick_no}
use Rattle.patch_text.specs.Text.{feed}
use Rattle.patch_text.specs.Steps.{closed_length}
use Rattle.patch_text.proofs.read.closed_length.Goals as goal

pub returns-then-text-n-eq10 : goal.returns-then-text-n-eq10
unfolding closed_length
returns-then-text-n-eq10 c =
    let b = c.args.text.now in
    pick_yes (eqb (get_or b (length b - 1) 0) feed) (length b) (length b + 1) (eq-eqb (get_or b (length b - 1) 0) feed c.if-text-n-eq10.true)

pub returns-else-text-n-eq10 : goal.returns-else-text-n-eq10
unfolding closed_length
returns-else-text-n-eq10 c =
    let b = c.args.text.now in
    pick_no (eqb (get_or b (length b - 1) 0) feed) (length b) (length b + 1) (ne_eqb (get_or b (length b - 1) 0) feed c.if-text-n-eq10.false)
