-- `page::tests::refused` meets its contract. Assumes nothing.
use mathlib.Core.Path.{sym, ◌∙◌}
use Rattle.page.proofs.Refusing.{gives_3, gives_12, gives_13_many, gives_13, gives_0, fitting}
use Rattle.page.proofs.tests.refused.Goals as goal

pub returns-then-candidates-count-clause-lowest : goal.returns-then-candidates-count-clause-lowest
returns-then-candidates-count-clause-lowest c = gives_3 _ _ _ c.if-candidates-count.true

pub returns-then-page-count-clause-lowest : goal.returns-then-page-count-clause-lowest
returns-then-page-count-clause-lowest c = gives_12 _ _ _ c.if-candidates-count.false c.if-page-count.true

pub returns-then-count-gt-MOST_CANDIDATES-clause-lowest : goal.returns-then-count-gt-MOST_CANDIDATES-clause-lowest
returns-then-count-gt-MOST_CANDIDATES-clause-lowest c =
    gives_13_many _ _ _ c.if-candidates-count.false c.if-page-count.false c.if-count-gt-MOST_CANDIDATES.true

pub returns-then-not-every_printable-clause-lowest : goal.returns-then-not-every_printable-clause-lowest
returns-then-not-every_printable-clause-lowest c =
    gives_13 _ _ _ c.if-candidates-count.false c.if-page-count.false (sym c.every_printable.ensures ∙ c.if-not-every_printable.true)

pub returns : goal.returns
returns c =
    let a = c.args in
    let s = c.if-candidates-count.false in
    let t = c.if-page-count.false in
    let few = c.if-count-gt-MOST_CANDIDATES.false in
    let e = sym c.every_printable.ensures ∙ c.if-not-every_printable.false in
    record { lowest = gives_0 _ _ _ s t few e; fitting = fitting a.candidates.now a.count a.page.now s t few e }
