-- `checkerboard_text::read::two_digits` meets its contract. Assumes nothing.
use mathlib.Core.Logic.{inl, inr, ⊎_elim}
use Rattle.checkerboard_text.proofs.Decimals.{tens_not, ones_not, two_not, two_is}
use Rattle.checkerboard_text.proofs.read.two_digits.Goals as goal

pub returns-in_err-tens : goal.returns-in_err-tens
returns-in_err-tens c = rw c.from_residual.ensures (tens_not c.args.a c.args.b (c.in_err-tens.ensures))

pub returns-in_err-ones : goal.returns-in_err-ones
returns-in_err-ones c = rw c.from_residual-in_err-ones.ensures (ones_not c.args.a c.args.b (c.in_err-ones.ensures))

pub returns-then-n-gt64 : goal.returns-then-n-gt64
returns-then-n-gt64 c =
    two_not _ _ c.in_ok-tens.tens c.in_ok-ones.ones (c.in_ok-tens.ensures) (c.in_ok-ones.ensures)
    (⊎_elim (λ z. inl z) (λ z. inr z.1) c.if-n-gt64.either)

pub returns-else-n-gt64 : goal.returns-else-n-gt64
returns-else-n-gt64 c =
    two_is _ _ c.in_ok-tens.tens c.in_ok-ones.ones (c.in_ok-tens.ensures) (c.in_ok-ones.ensures) c.if-n-gt64.false.0 c.if-n-gt64.false.1
