-- `geometry::internal::center` meets its contract. Assumes nothing.
use native.Mathlib.Omega.{arith}
use mathlib.Core.Path.{◌≡◌, refl, ap, ◌∙◌}
use lib.Ieee.{of_bits, binary64, round}
use Rattle.float.specs.Floats.{◌⊕◌, f64, d64}
use Rattle.geometry.proofs.internal.center.Goals as goal

half : of_bits binary64 0x3fe0_0000_0000_0000 ≡ d64 5 10
unfolding of_bits d64 round
half = refl

pub to_f64-requires : goal.to_f64-requires
to_f64-requires c = omega arith

pub returns : goal.returns
returns c = ap (λ z. z ⊕ of_bits binary64 0x3fe0_0000_0000_0000) c.to_f64.ensures ∙ ap (λ z. f64 c.args.n ⊕ z) half
