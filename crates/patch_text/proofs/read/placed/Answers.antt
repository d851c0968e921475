-- `patch_text::read::placed` meets its contract. Assumes nothing.
use mathlib.Core.Bool.{◌||◌}
use lib.Dec.{eqb}
use borrow.Author.Tests.{eq-eqb, ne_eqb}
use Rattle.base.proofs.Pick.{pick_yes, pick_no}
use Rattle.patch_text.specs.Text.{hash, dot, feed}
use Rattle.patch_text.specs.Steps.{placed}
use Rattle.patch_text.proofs.read.placed.Goals as goal

pub returns-then-x-w : goal.returns-then-x-w
unfolding placed
returns-then-x-w c =
    let a = c.args in
    pick_yes (eqb a.x a.w) (eqb a.byte feed) (eqb a.byte hash || eqb a.byte dot) (eq-eqb a.x a.w c.if-x-w.true)

pub returns : goal.returns
unfolding placed
returns c =
    let a = c.args in
    pick_no (eqb a.x a.w) (eqb a.byte feed) (eqb a.byte hash || eqb a.byte dot) (ne_eqb a.x a.w c.if-x-w.false)
