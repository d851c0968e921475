-- `Homography::inverse` meets its contract, by the test of the determinant. Assumes nothing.
use mathlib.Core.Path.{sym, ap, ◌∙◌}
use lib.Ieee.{lt, of_bits, round}
use Rattle.float.specs.Floats.{tiny, d64}
use Rattle.homography.proofs.Ends.{inverse_refused, inverse_found}
use Rattle.homography.proofs.Homography.inverse.Goals as goal

pub returns-then-abs : goal.returns-then-abs
unfolding of_bits d64 round
returns-then-abs c =
    let t = ap (λ a. lt a tiny) (sym c.abs.ensures) ∙ c.if-abs.true in
    c.refused.ensures ∙ inverse_refused c.args.self _ _ c.cofactors-c.ensures c.product_at-det.ensures t

pub returns : goal.returns
unfolding of_bits d64 round
returns c =
    let t = ap (λ a. lt a tiny) (sym c.abs.ensures) ∙ c.if-abs.false in
    c.found.ensures
    ∙ inverse_found c.args.self _ _ c.cofactors-c.ensures c.product_at-det.ensures _ t (c.from_mat.ensures ∙ c.quotients.ensures)
