-- `geometry::rectify` meets its contract. Assumes nothing.
use mathlib.Core.Path.{sym, ap}
use native.Mathlib.Omega.{arith}
use Rattle.fit.specs.Promises.{sampled_cells}
use Rattle.candidates.proofs.Looks.{ready_as}
use Rattle.candidates.specs.Lent.{areas_of}
use Rattle.fit_geometry.proofs.PastTests.{by_lengths, fit_past_as}
use Rattle.geometry.specs.Rectification.{lent}
use Rattle.geometry.proofs.Given.{canonical_as}
use Rattle.geometry.proofs.Rectifying.{passed, rectify_refused, rectify_found, laid_as, beyond_where_as}
use Rattle.geometry.proofs.rectify.Goals as goal

pub returns-in-Err-clause-rectification : goal.returns-in-Err-clause-rectification
returns-in-Err-clause-rectification c =
    let a = c.args in
    rectify_refused _ _ (lent (areas_of a.work.now) a.means.now a.canonical.now) _
    (by_lengths _ _ _ _ c.lengths-lengths.ensures c.in-Err.ensures.number) c.refused_by_test.ensures

pub fit_picture-found-requires : goal.fit_picture-found-requires
fit_picture-found-requires c =
    let a = c.args in
    let t = c.in-Ok.ensures in
    let l = lent (areas_of a.work.now) a.means.now a.canonical.now in
    let p = passed _ _ l (sym (by_lengths _ _ _ _ c.lengths-lengths.ensures t.number)) in
    (ready_as t.value.0 t.value.1 p.ready, omega (arith, p.means_room, ap sampled_cells t.value.1))

pub lay-beyond-requires : goal.lay-beyond-requires
lay-beyond-requires c =
    let a = c.args in
    let t = c.in-Ok.ensures in
    let l = lent (areas_of a.work.now) a.means.now a.canonical.now in
    let p = passed _ _ l (sym (by_lengths _ _ _ _ c.lengths-lengths.ensures t.number)) in
    canonical_as _ t.value.1 p.canonical_long

pub returns-in-Ok-clause-rectification : goal.returns-in-Ok-clause-rectification
returns-in-Ok-clause-rectification c =
    let a = c.args in
    let t = c.in-Ok.ensures in
    let l = lent (areas_of a.work.now) a.means.now a.canonical.now in
    rectify_found _ _ l _ _ _ (sym (by_lengths _ _ _ _ c.lengths-lengths.ensures t.number)) (fit_past_as t.value.0 t.value.1 c.fit_picture-found.ensures.past_tests)
    c.scored-picture.ensures (laid_as _ _ _ t.value.0 t.value.1 c.lay-beyond.ensures.1) (beyond_where_as _ _ t.value.0 t.value.1 c.lay-beyond.ensures.0)
