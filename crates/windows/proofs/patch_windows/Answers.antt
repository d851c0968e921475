-- `windows::patch_windows` meets its contract. Assumes nothing.
use native.Mathlib.Omega.{arith}
use Prim.Native.Nat.{ℕ, ◌*◌, ◌<◌, ◌^◌}
use mathlib.Core.List.{List, ◌++◌}
use mathlib.Core.Path.{ap, ◌∙◌}
use lib.ListN.{length, get_or, take, drop}
use Rattle.std.proofs.lemmas.Result.{err_from_is_err_and}
use Rattle.base.specs.Loops.{joined}
use Rattle.frame.specs.Refusals.{number}
use Rattle.windows.specs.Rectangles.{every_box}
use Rattle.windows.specs.Windows.{window_numbers}
use Rattle.windows.specs.Steps.{no_tally, window_in}
use Rattle.windows.specs.declared.tally.Tally.{Tally}
use Rattle.windows.proofs.Refusing.{boxes_hold, boxes_fail, bad_box_lem, none_bad, windowing_refused}
use Rattle.windows.proofs.Numbers.{tallies_answers, answers_mean}
use Rattle.windows.proofs.patch_windows.Goals as goal

pub returns-in_err-walk : goal.returns-in_err-walk
returns-in_err-walk c =
    let a = c.args in
    let b = boxes_fail _ (every_box a.patches.now a.n) _ (c.in_err-walk.ensures.tested) in
    let e = bad_box_lem a.patches.now a.n a.windows.now a.k a.answers.now (c.in_ok-refused.ensures.fitting) b.0 in
    let p = err_from_is_err_and c.from_residual-in_err-walk.result c.from_residual-in_err-walk.ensures.1 in
    rw (p.1, p.2) (windowing_refused a.patches.now a.n a.windows.now a.k a.answers.now _ (ap number b.1 ∙ e))

pub returns : goal.returns
returns c =
    let a = c.args in
    let f = c.in_ok-refused.ensures.fitting in
    let b = boxes_hold _ (every_box a.patches.now a.n) _ (c.in_ok-walk.ensures.tested) in
    let fits : a.n < 2 ^ 64 = omega (arith, c.ranges.n) in
    let z = none_bad a.patches.now a.n a.windows.now a.k a.answers.now f b.0 in
    let put : List Tally → List ℕ = λ x. let t = take a.k x in
    joined (λ i. window_numbers (window_in (get_or t i no_tally))) (length t) ++ drop (3 * length t) a.answers.now in
    let e = c.put_windows.ensures ∙ ap put c.in_ok-walk.ensures.told ∙ tallies_answers a.patches.now a.n a.windows.now a.k a.answers.now f.few in
    record {
      given = omega (arith, z);
      accepted = λ _. e;
      means = λ _. answers_mean a.patches.now a.n a.windows.now a.k fits f.rectangles b.0 _ _ e;
      refused = λ h. absurd (omega (arith, z));
    }
