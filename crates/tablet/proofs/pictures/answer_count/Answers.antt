-- `tablet::pictures::answer_count` meets its contract. Assumes nothing.
use mathlib.Core.Path.{sym, ap, ◌∙◌}
use mathlib.Core.List.{[], ◌∷◌}
use Rattle.book.proofs.Tested.{value_given}
use Rattle.tablet.specs.Slices.{written}
use Rattle.tablet.proofs.pictures.answer_count.Goals as goal

pub returns-in-Ok-clause-stored : goal.returns-in-Ok-clause-stored
returns-in-Ok-clause-stored c = λ tests n e.
    c.store.ensures ∙ ap (λ k. written (k ∷ []) c.args.counts.now) (value_given tests n (sym e ∙ c.in-Ok.is))
