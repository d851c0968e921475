-- `windows::answers::patch_of` meets its contract. Assumes nothing.
use borrow.Author.Tests.{eq-eqb, ne_eqb}
use Rattle.base.proofs.Pick.{pick_yes, pick_no}
use Rattle.windows.specs.Windows.{patch_of}
use Rattle.windows.proofs.answers.patch_of.Goals as goal

pub returns-then-v-eq-NO_PATCH : goal.returns-then-v-eq-NO_PATCH
unfolding patch_of
returns-then-v-eq-NO_PATCH c = pick_yes _ _ _ (eq-eqb _ _ c.if-v-eq-NO_PATCH.true)

pub returns : goal.returns
unfolding patch_of
returns c = pick_no _ _ _ (ne_eqb _ _ c.if-v-eq-NO_PATCH.false)
