-- `search::internal::search` meets its contract. Assumes nothing.
use Rattle.frame.specs.Image.{image}
use Rattle.search.proofs.Turning.{Reached, Held, left}
use Rattle.search.proofs.internal.search.Given as goal

abbrev pub invariant-loop-s : goal.invariant-loop-s
invariant-loop-s l = record {
  reached : Reached (image l.w l.h l.capture) l.frame l.quad l.s;
  held : Held l.s;
}

abbrev pub decreases-loop-s : goal.decreases-loop-s
decreases-loop-s l = left l.s
