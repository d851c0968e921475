-- `divisor` meets its contract, by its test; the literal is 1e-12. Assumes nothing.
use mathlib.Core.Path.{sym, ap, ◌∙◌}
use lib.Ieee.{lt, of_bits, round}
use Rattle.base.proofs.Pick.{pick_yes, pick_no}
use Rattle.float.specs.Floats.{tiny, d64}
use Rattle.homography.specs.Homography.{divisor}
use Rattle.homography.proofs.divisor.Goals as goal

pub returns-then-abs : goal.returns-then-abs
unfolding divisor of_bits d64 round
returns-then-abs c = pick_yes _ _ _ (ap (λ a. lt a tiny) (sym c.abs.ensures) ∙ c.if-abs.true)

pub returns-else-abs : goal.returns-else-abs
unfolding divisor of_bits d64 round
returns-else-abs c = pick_no _ _ _ (ap (λ a. lt a tiny) (sym c.abs.ensures) ∙ c.if-abs.false)
