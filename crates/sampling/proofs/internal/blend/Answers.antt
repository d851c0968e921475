-- `sampling::internal::blend` meets its contract. Assumes nothing.
use lib.Ieee.{of_bits, of_int}
use mathlib.Core.Path.{ap, ◌∙◌}
use Rattle.float.specs.Floats.{as_u8}
use Rattle.sampling.specs.Reading.{blended}
use Rattle.sampling.proofs.internal.blend.Goals as goal

pub returns : goal.returns
unfolding blended of_int of_bits
returns c = c.to_u8.ensures ∙ ap as_u8 c.clamp.ensures
