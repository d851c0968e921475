-- `merge::plan::plan_of` meets its contract. The loop's invariant: the plan is that of the records passed. Assumes nothing.
use Prim.Native.Nat.{◌+◌, ◌-◌}
use Rattle.book.specs.Layout.{count_in}
use Rattle.merge.proofs.Plans.{Planned}
use Rattle.merge.proofs.plan.plan_of.Given as goal

abbrev pub invariant-loop-at : goal.invariant-loop-at
invariant-loop-at l = Planned l.first l.second l.at l.p

abbrev pub decreases-loop-at : goal.decreases-loop-at
decreases-loop-at l = (count_in l.first - l.at.first) + (count_in l.second - l.at.second)
