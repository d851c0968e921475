-- `windows::refused` meets its contract. Assumes nothing.
use mathlib.Core.Path.{sym, ◌∙◌}
use Rattle.windows.proofs.Refusing.{short_answers_lem, short_windows_lem, short_patches_lem, too_many_lem, bad_rectangle_lem}
use Rattle.windows.proofs.refused.Goals as goal
use Rattle.windows.proofs.refused.Goals.{then-answers-k-via-then-answers-k, then-answers-k-via-else-answers-k+then-windows-k, then-answers-k-via-else-answers-k+else-windows-k+then-patches-n}
use Rattle.windows.proofs.refused.Goals.{then-k-gt-MOST_WINDOWS-via-then-k-gt-MOST_WINDOWS, then-k-gt-MOST_WINDOWS-via-else-k-gt-MOST_WINDOWS+then-not-every_rectangle}

pub returns-then-answers-k-clause-lowest : goal.returns-then-answers-k-clause-lowest
returns-then-answers-k-clause-lowest c =
    elim c.then-answers-k.branch [
      | then-answers-k-via-then-answers-k w ↦ short_answers_lem _ _ _ _ _ w.if-answers-k.true
      | then-answers-k-via-else-answers-k+then-windows-k w ↦ short_windows_lem _ _ _ _ _ w.if-windows-k.true
      | then-answers-k-via-else-answers-k+else-windows-k+then-patches-n w ↦ short_patches_lem _ _ _ _ _ w.if-patches-n.true
    ]

pub returns-then-k-gt-MOST_WINDOWS-clause-lowest : goal.returns-then-k-gt-MOST_WINDOWS-clause-lowest
returns-then-k-gt-MOST_WINDOWS-clause-lowest c =
    let p = c.if-answers-k.false in
    let q = c.if-windows-k.false in
    let o = c.if-patches-n.false in
    elim c.then-k-gt-MOST_WINDOWS.branch [
      | then-k-gt-MOST_WINDOWS-via-then-k-gt-MOST_WINDOWS w ↦ too_many_lem _ _ _ _ _ p q o w.if-k-gt-MOST_WINDOWS.true
      | then-k-gt-MOST_WINDOWS-via-else-k-gt-MOST_WINDOWS+then-not-every_rectangle w ↦
          bad_rectangle_lem _ _ _ _ _ p q o (sym w.every_rectangle.ensures ∙ w.if-not-every_rectangle.true)
    ]
