-- `page::text::put_lines` meets its contract. Assumes nothing.
use mathlib.Core.Path.{◌≡◌}
use lib.ListN.{length}
use Rattle.base.proofs.Over.{over}
use Rattle.page.specs.Text.{page_text}
use Rattle.page.proofs.text.put_lines.Given as goal

abbrev pub invariant-loop-i : goal.invariant-loop-i
invariant-loop-i l = record {
  written : l.page ≡ over (page_text l.candidates l.i) l.initial.page;
  long : length l.page ≡ length l.initial.page;
}
