-- `pivot` meets its contract. The loop's invariant: piv is the pivot among the rows from col up to r. Assumes nothing.
use mathlib.Core.Path.{◌≡◌, sym, ap, ◌∙◌}
use native.Mathlib.Omega.{arith}
use lib.Ieee.{lt}
use Rattle.base.proofs.Turns.{between_begin, between_step, between_end}
use Rattle.float.specs.Floats.{abs_of}
use Rattle.homography.proofs.Steps.{better_yes, better_no}
use Rattle.homography.specs.Arithmetic.{rounded}
use Rattle.homography.specs.Elimination.{entry, pivot_of}
use Rattle.homography.proofs.solve.pivot.Goals as goal
use Rattle.homography.proofs.solve.pivot.Goals.{then-abs, else-abs}

pub loop-r-init : goal.loop-r-init
loop-r-init c = (between_begin _ _ _, omega arith)

pub loop-r-preserved : goal.loop-r-preserved
loop-r-preserved c =
    let a = c.args.a.now in
    let col = c.args.col in
    let x = c.abs in
    let y = c.abs-in-loop-r in
    let test : lt (abs_of (entry rounded a c.loop-r.piv col)) (abs_of (entry rounded a c.loop-r.r col)) ≡ lt y.result x.result =
    ap (λ z. lt z (abs_of (entry rounded a c.loop-r.r col))) (sym y.ensures) ∙ ap (lt y.result) (sym x.ensures)
    in
    let step = between_step _ _ _ c.loop-r.r c.loop-r.auto.r c.loop-r.invariant.0 in
    elim c.if-abs.branch [
      | then-abs w ↦ (w.piv-is ∙ better_yes a col c.loop-r.r c.loop-r.piv (test ∙ w.if-abs.true) ∙ step, omega arith)
      | else-abs w ↦ (w.piv-is ∙ better_no a col c.loop-r.r c.loop-r.piv (test ∙ w.if-abs.false) ∙ step, omega arith)
    ]

pub returns : goal.returns
unfolding pivot_of
returns c = (between_end _ _ _ _ _ c.loop-r.invariant.0 (omega arith), omega arith)
