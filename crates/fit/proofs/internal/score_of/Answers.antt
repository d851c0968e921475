-- `fit::internal::score_of` meets its contract. Assumes nothing.
use lib.Ieee.{of_bits}
use mathlib.Core.Logic.{⊎_elim}
use Rattle.fit.specs.Grid.{score_of}
use mathlib.Core.Path.{sym, ap}
use Rattle.fit.proofs.internal.score_of.Goals as goal

pub returns-in-Score : goal.returns-in-Score
unfolding score_of
returns-in-Score c = sym (ap score_of c.in-Score.is)

pub returns-in-Outside : goal.returns-in-Outside
unfolding score_of of_bits
returns-in-Outside c = ⊎_elim (λ o. sym (ap score_of o.1)) (λ e. sym (ap score_of e)) c.in-Outside.is
