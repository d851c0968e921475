-- `merge::fill::put_joined` meets its contract. The loop's invariant: the header and the first k records are written, and the
-- walk stands at the next. Assumes nothing.
use Rattle.merge.proofs.Filling.{Filled}
use Rattle.merge.proofs.fill.put_joined.Given as goal

abbrev pub invariant-loop-k : goal.invariant-loop-k
invariant-loop-k l = Filled l.first l.second l.count l.initial.target l.at l.target l.k
