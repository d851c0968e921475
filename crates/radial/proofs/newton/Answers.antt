-- `newton` meets its contract. The loop's invariant: the steps that are left lead from u to the answer. Assumes nothing.
use mathlib.Core.Path.{◌≡◌, sym, ap, ◌∙◌}
use Prim.Native.Nat.{ℕ, suc, ◌+◌, ◌-◌}
use native.Mathlib.Omega.{arith}
use lib.Ieee.{of_bits, of_int}
use Rattle.float.specs.Floats.{d64}
use Rattle.radial.specs.Lens.{newton}
use Rattle.radial.proofs.Steps.{newton_done, newton_stop, newton_go}
use Rattle.radial.proofs.newton.Goals as goal

pub returns-then-abs : goal.returns-then-abs
unfolding of_bits of_int d64
returns-then-abs c =
    let l = c.loop in
    let a = c.args in
    let n : 6 - l.counter ≡ suc (5 - l.counter) = omega arith in
    sym (newton_stop (5 - l.counter) a.k a.rd l.u (cc))
    ∙ ap (λ (i : ℕ). newton i a.k a.rd l.u) (sym n)
    ∙ l.invariant.0

pub loop-preserved : goal.loop-preserved
unfolding of_bits of_int d64
loop-preserved c =
    let l = c.loop in
    let a = c.args in
    let n : 6 - l.counter ≡ suc (6 - (l.counter + 1)) = omega arith in (
      sym (newton_go (6 - (l.counter + 1)) a.k a.rd l.u (cc))
          ∙ ap (λ (i : ℕ). newton i a.k a.rd l.u) (sym n)
          ∙ l.invariant.0,
      omega arith,
    )

pub returns : goal.returns
returns c =
    let l = c.loop in
    let a = c.args in
    let n : 6 - l.counter ≡ 0 = omega arith in
    sym (newton_done 0 a.k a.rd l.u) ∙ ap (λ (i : ℕ). newton i a.k a.rd l.u) (sym n) ∙ l.invariant.0
