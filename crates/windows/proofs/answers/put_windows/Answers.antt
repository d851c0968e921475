-- `windows::answers::put_windows` meets its contract. Assumes nothing.
use native.Mathlib.Omega.{arith}
use Prim.Native.Nat.{ℕ, ◌+◌, ◌*◌}
use mathlib.Core.Path.{◌≡◌, refl, ap, ◌∙◌}
use mathlib.Core.List.{List, [], ◌++◌}
use lib.ListN.{length, get_or, drop}
use Rattle.base.specs.Loops.{joined}
use Rattle.base.proofs.Joined.{over_joined, over_joined_end}
use Rattle.windows.specs.Windows.{window_numbers}
use Rattle.windows.specs.Steps.{no_tally, window_in}
use Rattle.windows.specs.declared.tally.Tally.{Tally}
use Rattle.windows.proofs.answers.put_windows.Goals as goal

abbrev numbers : List Tally → ℕ → List ℕ
numbers tallies i = window_numbers (window_in (get_or tallies i no_tally))

long : (tallies : List Tally) (i : ℕ) → length (numbers tallies i) ≡ 3
unfolding window_numbers
long tallies i = refl

pub loop-i-init : goal.loop-i-init
loop-i-init c = unfold joined in refl

pub loop-i-preserved : goal.loop-i-preserved
loop-i-preserved c =
    let k = c.loop-i in
    let t = c.args.tallies.now in
    over_joined (numbers t) 3 (long t) [] c.args.answers.now k.answers c.put_window.new.area (3 * k.i) k.i k.invariant
    (omega arith) (c.put_window.ensures ∙ ap window_numbers c.window.ensures)

pub returns : goal.returns
returns c =
    let k = c.loop-i in
    let t = c.args.tallies.now in
    let z : 0 + 3 * length t ≡ 3 * length t = omega arith in
    over_joined_end (numbers t) 3 (long t) [] c.args.answers.now k.answers k.i (length t) k.invariant (omega arith)
    ∙ ap (λ m. joined (numbers t) (length t) ++ drop m c.args.answers.now) z
