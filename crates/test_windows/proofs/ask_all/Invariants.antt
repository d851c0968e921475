use Rattle.std.proofs.Common.{length}
use Rattle.test_windows.proofs.ask_all.Given as goal

abbrev pub decreases-loop-rest : goal.decreases-loop-rest
decreases-loop-rest l = length l.rest
