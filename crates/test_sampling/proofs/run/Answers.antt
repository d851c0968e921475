-- The picture is 60 bytes of the buffer.
use Rattle.std.proofs.Common.{sym, arith}
use Rattle.std.proofs.lemmas.List.{length-take-le}
use Rattle.test_sampling.proofs.run.Goals as goal

pub slice_bounds-picture-end : goal.slice_bounds-picture-end
slice_bounds-picture-end c = sym (length-take-le 60 c.args.b.now (omega arith))
