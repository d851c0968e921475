-- `fit::internal::unfitted` meets its contract. Assumes nothing.
use Rattle.std.specs.Prelude.{Err}
use Rattle.fit.specs.Fits.{unfitted}
use Rattle.fit.specs.declared.GeometryFit.{GeometryFit}
use mathlib.Core.Path.{ap}
use Rattle.fit.proofs.internal.unfitted.Goals as goal

pub returns : goal.returns
unfolding unfitted
returns c = ap (λ (z : GeometryFit). record { verdict = Err c.args.refusal; fit = z }) c.no_fit.ensures
