-- `float::whole::to_f64` meets its contract: the cast through `i64` gives the same float. Assumes nothing.
use Rattle.std.proofs.Common.{arith}
use Rattle.base.proofs.Floats.{held64_signed, signed_float}
use Rattle.float.proofs.whole.to_f64.Goals as goal

pub int_to_float-result : goal.int_to_float-result
int_to_float-result c = held64_signed c.args.n (omega arith)

pub returns : goal.returns
returns c = signed_float c.args.n (omega arith)
