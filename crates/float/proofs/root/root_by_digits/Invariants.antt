-- `float::root_by_digits` meets its contract: the invariant is `State`. Assumes nothing.
use Rattle.float.proofs.root.Digits.{State}
use Rattle.float.proofs.root.root_by_digits.Given as goal

abbrev pub invariant-loop : goal.invariant-loop
invariant-loop l = State l.a l.rest l.r l.e l.counter
