-- `fit_geometry::fit_geometry` meets its contract. Assumes nothing.
use mathlib.Core.Path.{sym, ap}
use native.Mathlib.Omega.{arith}
use Rattle.candidates.proofs.Looks.{ready_as}
use Rattle.fit.specs.Promises.{sampled_cells}
use Rattle.fit_geometry.proofs.PastTests.{fit_refused, fit_reported, fit_ready, by_lengths, fit_past_as}
use Rattle.fit_geometry.proofs.fit_geometry.Goals as goal

pub returns-in-Err-clause-fitting : goal.returns-in-Err-clause-fitting
returns-in-Err-clause-fitting c =
    fit_refused _ _ _ _ _ (by_lengths _ _ _ _ c.lengths.ensures c.in-Err.ensures.number) c.refused_by_test.ensures

pub fit_picture-requires : goal.fit_picture-requires
fit_picture-requires c =
    let t = c.in-Ok.ensures in
    let r = fit_ready _ _ _ c.args.means.now (sym (by_lengths _ _ _ _ c.lengths.ensures t.number)) in
    (ready_as t.value.0 t.value.1 r.0, omega (arith, r.1, ap sampled_cells t.value.1))

pub returns-in-Ok-clause-fitting : goal.returns-in-Ok-clause-fitting
returns-in-Ok-clause-fitting c =
    let t = c.in-Ok.ensures in
    fit_reported _ _ _ _ _ _ _ (sym (by_lengths _ _ _ _ c.lengths.ensures t.number))
    (fit_past_as t.value.0 t.value.1 c.fit_picture.ensures.past_tests)
