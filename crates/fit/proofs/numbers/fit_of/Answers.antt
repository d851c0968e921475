-- `fit::numbers::fit_of` meets its contract. Assumes nothing.
use Rattle.homography.specs.declared.Homography.{Homography}
use Rattle.fit.specs.Numbers.{at, fit_of}
use mathlib.Core.Path.{ap}
use Rattle.fit.proofs.numbers.fit_of.Goals as goal

pub returns : goal.returns
unfolding fit_of
returns c =
    let l = c.args.l.now in
    ap (λ (h : Homography). record { h = h; radial = record { k = at l 9; cx = at l 10; cy = at l 11; norm = at l 12 } }) c.matrix_of.ensures
