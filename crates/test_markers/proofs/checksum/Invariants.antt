use Rattle.std.proofs.Common.{◌<◌}
use Rattle.test_markers.proofs.checksum.Given as goal

abbrev pub invariant-loop-byte : goal.invariant-loop-byte
invariant-loop-byte l = l.s < 4294967291
