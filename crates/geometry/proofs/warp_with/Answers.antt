-- `geometry::warp_with` meets its contract. Assumes nothing.
use mathlib.Core.Path.{sym}
use Rattle.std.proofs.lemmas.Result.{err_from_is_err_and}
use Rattle.frame.specs.Image.{image}
use Rattle.geometry.proofs.Given.{warping_refused, warping_accepted, warpable, canonical_as, beyond_as, warped_as}
use Rattle.geometry.proofs.warp_with.Goals as goal

pub returns-in_err-capture : goal.returns-in_err-capture
returns-in_err-capture c =
    let p = err_from_is_err_and c.from_residual.result c.from_residual.ensures.1 in
    rw (p.1, p.2) (warping_refused (image _ _ _) _ _ _ _ c.in_err-capture.ensures.number)

pub warp-requires : goal.warp-requires
warp-requires c =
    let t = c.in_ok-capture.ensures in
    canonical_as _ t.value.1 (warpable (image _ _ _) _ c.args.canonical.now (sym t.number)).2

pub returns : goal.returns
returns c =
    let t = c.in_ok-capture.ensures in
    warping_accepted (image _ _ _) _ _ _ (sym t.number) (beyond_as _ t.value.0 t.value.1 c.warp.ensures.0) (warped_as _ _ t.value.0 t.value.1 c.warp.ensures.1)
