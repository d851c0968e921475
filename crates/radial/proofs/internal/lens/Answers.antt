-- `lens` meets its contract; sides up to 4,096 are f64 without loss. Assumes nothing.
use native.Mathlib.Omega.{arith}
use mathlib.Core.Path.{ap, ◌∙◌}
use lib.Ieee.{of_bits, of_int}
use Rattle.base.proofs.Floats.{held64}
use Rattle.float.specs.Floats.{◌⊘◌, f64, max_of}
use Rattle.radial.specs.Lens.{radial}
use Rattle.radial.proofs.internal.lens.Goals as goal

pub int_to_float-cx : goal.int_to_float-cx
int_to_float-cx c = held64 _ (omega arith)

pub int_to_float-cy : goal.int_to_float-cy
int_to_float-cy c = held64 _ (omega arith)

pub returns : goal.returns
unfolding radial of_bits of_int
returns c =
    ap (λ n. record { k = c.args.k; cx = f64 c.args.w ⊘ f64 2; cy = f64 c.args.h ⊘ f64 2; norm = n })
    (c.max-norm.ensures ∙ ap (λ s. max_of s (f64 1)) c.sqrt-half.ensures.value)
