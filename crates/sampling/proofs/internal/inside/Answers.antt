-- `sampling::internal::inside` meets its contract. Assumes nothing.
use mathlib.Core.Bool.{◌&&◌}
use lib.Ieee.{lt, le, of_bits, of_int}
use Rattle.float.specs.Floats.{f64}
use Rattle.sampling.specs.Reading.{inside}
use Rattle.sampling.proofs.internal.inside.Goals as goal

pub returns : goal.returns
unfolding inside of_bits of_int
returns c =
    let a = c.args in
    λ i. le (f64 0) a.x && le (f64 0) a.y && lt a.x (c.to_f64.ensures i) && lt a.y (c.to_f64-2.ensures i)
