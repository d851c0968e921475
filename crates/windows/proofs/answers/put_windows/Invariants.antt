-- The first i answers are written. Assumes nothing.
use mathlib.Core.Path.{◌≡◌}
use mathlib.Core.List.{[], ◌++◌}
use lib.ListN.{get_or}
use Rattle.base.specs.Loops.{joined}
use Rattle.base.proofs.Over.{over}
use Rattle.windows.specs.Windows.{window_numbers}
use Rattle.windows.specs.Steps.{no_tally, window_in}
use Rattle.windows.proofs.answers.put_windows.Given as goal

abbrev pub invariant-loop-i : goal.invariant-loop-i
invariant-loop-i l =
    l.answers ≡ over ([] ++ joined (λ i. window_numbers (window_in (get_or l.tallies i no_tally))) l.i) l.fn.answers
