-- `geometry::internal::lay` meets its contract. Assumes nothing.
use mathlib.Core.Path.{◌∙◌}
use Rattle.frame.proofs.Given.{accepted_zero}
use Rattle.geometry.proofs.Given.{refused_some}
use Rattle.geometry.proofs.Rectifying.{laid_kept, laid_warped, beyond_kept, beyond_laid}
use Rattle.geometry.proofs.internal.lay.Goals as goal

pub returns-in-Err : goal.returns-in-Err
returns-in-Err c = let n = refused_some c.in-Err.is in (beyond_kept _ _ _ _ n, laid_kept _ _ _ _ _ n)

pub returns-in-Ok : goal.returns-in-Ok
returns-in-Ok c =
    let z = accepted_zero c.in-Ok.is in
    (c.warp.ensures.0 ∙ beyond_laid _ _ _ _ z, c.warp.ensures.1 ∙ laid_warped _ _ _ _ _ z)
