-- `tablet::whole::store_scored` meets its contract. Assumes nothing.
use mathlib.Core.List.{List, [], ◌∷◌, ◌++◌}
use mathlib.Core.Path.{ap, ◌∙◌}
use native.Mathlib.Omega.{arith}
use lib.Ieee.{Float}
use lib.ListN.{set}
use Rattle.fit.specs.Numbers.{fit_numbers, matrix_numbers, lens_numbers}
use Rattle.tablet.specs.Slices.{written}
use Rattle.tablet.specs.Whole.{scored_fit}
use Rattle.tablet.proofs.Laws.{written_next}
use Rattle.tablet.proofs.whole.store_scored.Goals as goal

pub returns : goal.returns
unfolding scored_fit fit_numbers matrix_numbers lens_numbers
returns c =
    let old = c.args.fit.now in
    let t = c.args.found.stage.fit in
    let s = c.kept_score.result in
    ap (λ (l : List Float). set l 13 s) c.store_fit.ensures
    ∙ written_next (fit_numbers t) old s (let h = c.requires in omega arith)
    ∙ ap (λ (x : Float). written (fit_numbers t ++ (x ∷ [])) old) c.kept_score.ensures
