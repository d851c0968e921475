-- The sum of the numbers before the index.
use Rattle.std.proofs.Common.{◌≡◌, ◌<◌, map}
use Rattle.base.specs.Loops.{turns}
use Rattle.vectors.specs.Sums.{prime, add_at}
use Rattle.vectors.proofs.sum.of.Given as goal

abbrev pub invariant-loop-item : goal.invariant-loop-item
invariant-loop-item g l = record { so_far : l.sum ≡ turns l.item-index (add_at (map g.T.Number.number l.items)) 0; bound : l.sum < prime }
