-- `fit::grid::fisher` meets its contract. Assumes nothing.
use Rattle.fit.specs.Grid.{variance, fisher_of}
use lib.Ieee.{of_int, of_bits}
use lib.ListN.{length}
use Rattle.float.specs.Floats.{f64, ◌⊘◌, ◌⊕◌}
use mathlib.Core.Path.{ap, ◌∙◌}
use Rattle.fit.proofs.grid.fisher.Goals as goal

pub returns : goal.returns
unfolding fisher_of of_int of_bits
returns c =
    let a = c.args in
    ap (λ v. v ⊘ (a.within ⊘ f64 (length a.means.now) ⊕ f64 1)) (c.variance-between.ensures ∙ ap (variance _ _) c.mean.ensures)
