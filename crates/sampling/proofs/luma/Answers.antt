-- `sampling::luma` meets its contract: the decimals are the literals' values. Assumes nothing.
use lib.Ieee.{of_bits, round}
use mathlib.Core.Path.{refl}
use Rattle.float.specs.Floats.{d32}
use Rattle.sampling.specs.Luma.{luma_of}
use Rattle.sampling.proofs.luma.Goals as goal

pub returns : goal.returns
unfolding luma_of d32 of_bits round
returns c = refl
