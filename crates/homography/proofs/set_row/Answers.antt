-- `set_row` meets its contract. Assumes nothing.
use mathlib.Core.Path.{◌≡◌, ap, ◌∙◌}
use Prim.Native.Nat.{◌+◌, ◌*◌, ◌-◌}
use native.Mathlib.Omega.{arith}
use mathlib.Core.List.{◌++◌}
use lib.ListN.{take, drop}
use Rattle.homography.specs.Inner.{row_set}
use Rattle.homography.proofs.set_row.Goals as goal

pub returns : goal.returns
unfolding row_set
returns c =
    let a = c.args in
    let front = take (a.r * 9) a.a.now in
    let rest = drop (a.r * 9) a.a.now in
    let e : a.r * 9 + 9 - a.r * 9 ≡ 9 = omega arith in
    ap (λ x. front ++ (x ++ drop (a.r * 9 + 9 - a.r * 9) rest)) c.copy_from_slice.ensures.after ∙ ap (λ n. front ++ (a.row ++ drop n rest)) e
