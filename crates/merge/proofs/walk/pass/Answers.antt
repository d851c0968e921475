-- `merge::walk::pass` meets its contract. Assumes nothing.
use mathlib.Core.Path.{sym, ap}
use Rattle.merge.specs.Steps.{passed}
use Rattle.merge.proofs.walk.pass.Goals as goal

pub returns-in-First : goal.returns-in-First
unfolding passed
returns-in-First c = sym (ap (passed _) c.in-First.is)

pub returns-in-Second : goal.returns-in-Second
unfolding passed
returns-in-Second c = sym (ap (passed _) c.in-Second.is)

pub returns-in-Both : goal.returns-in-Both
unfolding passed
returns-in-Both c = sym (ap (passed _) c.in-Both.is)
