-- `frame::internal::outside` meets its contract. Assumes nothing.
use mathlib.Core.Path.{refl}
use native.Mathlib.Omega.{arith}
use lib.Ieee.{of_bits, of_int}
use Rattle.base.proofs.Floats.{held64}
use Rattle.frame.specs.Image.{outside}
use Rattle.frame.proofs.internal.outside.Goals as goal

pub int_to_float-result : goal.int_to_float-result
int_to_float-result c = held64 _ (omega arith)

pub int_to_float-result-2 : goal.int_to_float-result-2
int_to_float-result-2 c = held64 _ (omega arith)

pub returns : goal.returns
unfolding outside of_bits of_int
returns c = refl
