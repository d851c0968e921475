-- `checkerboard_text::read::one_digit` meets its contract. Assumes nothing.
use Rattle.checkerboard_text.proofs.Decimals.{one_not, one_zero, one_is}
use Rattle.checkerboard_text.proofs.read.one_digit.Goals as goal

pub returns-in_err-n : goal.returns-in_err-n
returns-in_err-n c = rw c.from_residual.ensures (one_not c.args.a (c.in_err-n.ensures))

pub returns-then-n-eq0 : goal.returns-then-n-eq0
returns-then-n-eq0 c = one_zero c.args.a c.in_ok-n.n (c.in_ok-n.ensures) c.if-n-eq0.true

pub returns-else-n-eq0 : goal.returns-else-n-eq0
returns-else-n-eq0 c = one_is c.args.a c.in_ok-n.n (c.in_ok-n.ensures) c.if-n-eq0.false
