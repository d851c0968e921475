-- The next picture begins within the bytes.
use Rattle.std.proofs.Common.{◌≤◌, length}
use Rattle.test_fiducials.proofs.pictures.Given as goal

abbrev pub invariant-loop-i : goal.invariant-loop-i
invariant-loop-i l = l.at ≤ length l.b
