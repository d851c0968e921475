-- `patch_text::read::mask_size` meets its contract. Assumes nothing.
use native.Mathlib.Omega.{arith}
use mathlib.Core.Path.{sym, ◌∙◌}
use Rattle.patch_text.proofs.Texts.{no_line, wide_line, uneven, many_lines, unlettered, lettered_mask}
use Rattle.patch_text.proofs.read.mask_size.Goals as goal
use Rattle.patch_text.proofs.read.mask_size.Goals.{then-w-eq0-via-then-w-eq0, then-w-eq0-via-else-w-eq0+then-w-gt64}
use Rattle.patch_text.proofs.read.mask_size.Goals.{then-whole-w-ne0-via-then-whole-w-ne0, then-whole-w-ne0-via-else-whole-w-ne0+then-h-gt64}
use Rattle.patch_text.proofs.read.mask_size.Goals.{then-whole-w-ne0-via-else-whole-w-ne0+else-h-gt64+then-not-lettered}

pub returns-then-w-eq0 : goal.returns-then-w-eq0
returns-then-w-eq0 c =
    elim c.then-w-eq0.branch [
      | then-w-eq0-via-then-w-eq0 w ↦ no_line _ _ c.line_length-w.ensures w.if-w-eq0.true
      | then-w-eq0-via-else-w-eq0+then-w-gt64 w ↦ wide_line _ _ c.line_length-w.ensures w.if-w-gt64.true
    ]

pub returns-then-whole-w-ne0 : goal.returns-then-whole-w-ne0
returns-then-whole-w-ne0 c =
    let f = c.line_length-w.ensures in
    let z = c.closed_length-whole.ensures in
    elim c.then-whole-w-ne0.branch [
      | then-whole-w-ne0-via-then-whole-w-ne0 w ↦ uneven _ _ f _ z w.if-whole-w-ne0.true
      | then-whole-w-ne0-via-else-whole-w-ne0+then-h-gt64 w ↦ many_lines _ _ f _ z w.if-h-gt64.true
      | then-whole-w-ne0-via-else-whole-w-ne0+else-h-gt64+then-not-lettered w ↦ unlettered _ _ f _ z (sym w.lettered.ensures ∙ w.if-not-lettered.true)
    ]

pub returns : goal.returns
returns c =
    lettered_mask _ _ c.line_length-w.ensures _ c.closed_length-whole.ensures (omega (arith, c.if-w-eq0.false)) c.if-w-gt64.false c.if-whole-w-ne0.false
    c.if-h-gt64.false (sym c.lettered.ensures ∙ c.if-not-lettered.false)
