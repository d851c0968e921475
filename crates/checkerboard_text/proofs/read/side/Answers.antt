-- `checkerboard_text::read::side` meets its contract. Assumes nothing.
use native.Mathlib.Omega.{arith}
use Rattle.checkerboard_text.proofs.Decimals.{side_none}
use Rattle.checkerboard_text.proofs.read.side.Goals as goal

pub returns-in_default : goal.returns-in_default
returns-in_default c = side_none _ (λ e. omega arith) (λ e. omega arith)

pub returns-in_default-2 : goal.returns-in_default-2
returns-in_default-2 c = side_none _ (λ e. omega arith) (λ e. omega arith)
