-- The first k entries are the words' floats.
use Rattle.std.proofs.Common.{◌≡◌}
use Rattle.base.specs.Loops.{filled}
use Rattle.test_page.specs.Calls.{float_for}
use Rattle.test_page.proofs.fill.Given as goal

abbrev pub invariant-loop-k : goal.invariant-loop-k
invariant-loop-k l = l.list ≡ filled (float_for l.words) l.k l.fn.list
