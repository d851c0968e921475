-- `search::stages::k_at` meets its contract. Assumes nothing.
use lib.Ieee.{of_bits, round}
use Rattle.search.specs.Stages.{k_at}
use Rattle.float.specs.Floats.{d64}
use Rattle.base.proofs.Floats.{held64}
use native.Mathlib.Omega.{arith}
use Rattle.search.proofs.stages.k_at.Goals as goal

pub int_to_float-k : goal.int_to_float-k
int_to_float-k c = held64 _ (omega arith)

pub returns : goal.returns
unfolding k_at d64 of_bits round
returns c = cc
