-- `checkerboard_text::read::blank_place` meets its contract. Assumes nothing.
use borrow.Author.Tests.{eq-eqb, ne_eqb}
use Rattle.base.proofs.Pick.{pick_yes, pick_no}
use Rattle.checkerboard_text.specs.Steps.{blank_place}
use Rattle.checkerboard_text.proofs.read.blank_place.Goals as goal

pub returns-then-text-eq32 : goal.returns-then-text-eq32
unfolding blank_place
returns-then-text-eq32 c = pick_yes _ 1 2 (eq-eqb _ _ c.if-text-eq32.true)

pub returns-else-text-eq32 : goal.returns-else-text-eq32
unfolding blank_place
returns-else-text-eq32 c = pick_no _ 1 2 (ne_eqb _ _ c.if-text-eq32.false)
