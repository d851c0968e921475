-- `merge::plan::clash` meets its contract. Assumes nothing.
use native.Mathlib.Omega.{arith}
use mathlib.Core.Path.{sym, ap, subst, ◌∙◌}
use mathlib.Core.Bool.{not}
use mathlib.Core.Logic.{⊎_elim}
use Rattle.merge.specs.Steps.{Held, clash}
use Rattle.merge.proofs.plan.clash.Goals as goal

pub same_record-requires : goal.same_record-requires
same_record-requires c =
    let h = subst (Held c.args.first.now c.args.second.now c.args.at) c.in-Both.is c.requires.1 in
    (omega (arith, h.0, c.requires.0.first_whole), omega (arith, h.1, c.requires.0.second_whole))

pub returns-in-First : goal.returns-in-First
unfolding clash
returns-in-First c = ⊎_elim (λ e. sym (ap (clash _ _ _) e)) (λ e. sym (ap (clash _ _ _) e)) c.in-First.is

pub returns-in-Both : goal.returns-in-Both
unfolding clash
returns-in-Both c = ap not c.same_record.ensures ∙ sym (ap (clash _ _ _) c.in-Both.is)
