-- `newton` meets its contract. The loop's invariant: the steps that are left lead from u to the answer. Assumes nothing.
use mathlib.Core.Path.{◌≡◌}
use Prim.Native.Nat.{◌≤◌, ◌-◌}
use Rattle.radial.specs.Lens.{newton}
use Rattle.radial.proofs.newton.Given as goal

abbrev pub invariant-loop : goal.invariant-loop
invariant-loop l = (newton (6 - l.counter) l.k l.rd l.u ≡ newton 6 l.k l.rd l.rd) × (l.counter ≤ 6)

abbrev pub decreases-loop : goal.decreases-loop
decreases-loop l = 6 - l.counter
