-- `markers::quiet_zone` meets its contract. Assumes nothing.
use mathlib.Core.Path.{ap, ◌∙◌}
use Rattle.std.specs.Prelude.{Ok}
use Rattle.frame.proofs.Given.{answer_first, answer_next, answer_none}
use Rattle.frame.proofs.Held.{cell_most}
use Rattle.markers.specs.Promises.{cell_tests}
use Rattle.markers.proofs.quiet_zone.Goals as goal

pub returns-then-not-cell_held : goal.returns-then-not-cell_held
unfolding cell_tests
returns-then-not-cell_held c = answer_first _ _ _ _ (cc)

pub quiet_zone-requires : goal.quiet_zone-requires
quiet_zone-requires c = cell_most _ (cc)

pub returns : goal.returns
unfolding cell_tests
returns c = ap Ok c.quiet_zone.ensures ∙ answer_next _ _ _ _ (cc) (answer_none _)
