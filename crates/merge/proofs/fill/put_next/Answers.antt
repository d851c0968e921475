-- `merge::fill::put_next` meets its contract. Assumes nothing.
use native.Mathlib.Omega.{arith}
use mathlib.Core.List.{List}
use mathlib.Core.Logic.{◌⊎◌, inl, inr, ⊎_elim}
use mathlib.Core.Path.{◌≡◌, sym, ap, subst, ◌∙◌}
use Prim.Native.Nat.{ℕ, ◌<◌}
use Rattle.book.specs.Layout.{count_in}
use Rattle.merge.specs.Steps.{Held, next_record}
use Rattle.merge.specs.declared.walk.Cursors.{Cursors}
use Rattle.merge.specs.declared.walk.Side.{Side}
use Rattle.merge.specs.declared.walk.Side.TheVariants.{First, Both}
use Rattle.merge.proofs.fill.put_next.Goals as goal

-- the key stands there
in_first : (first second : List ℕ) (at : Cursors) (side : Side) → (side ≡ First) ⊎ (side ≡ Both) → Held first second at side → at.first < count_in first
in_first first second at side (inl e) h = subst (Held first second at) e h
in_first first second at side (inr e) h = (subst (Held first second at) e h).0

pub copy_record-requires : goal.copy_record-requires
copy_record-requires c =
    let h = in_first c.args.first.now c.args.second.now c.args.at c.args.side c.in-First.is c.requires.1 in
    (omega (arith, h, c.requires.0.first_whole), c.requires.2)

pub copy_record-requires-in-Second : goal.copy_record-requires-in-Second
copy_record-requires-in-Second c =
    let h = subst (Held c.args.first.now c.args.second.now c.args.at) c.in-Second.is c.requires.1 in
    (omega (arith, h, c.requires.0.second_whole), c.requires.2)

pub returns-in-First : goal.returns-in-First
unfolding next_record
returns-in-First c = c.copy_record.ensures ∙ ⊎_elim (λ e. sym (ap (next_record _ _ _) e)) (λ e. sym (ap (next_record _ _ _) e)) c.in-First.is

pub returns-in-Second : goal.returns-in-Second
unfolding next_record
returns-in-Second c = c.copy_record-in-Second.ensures ∙ sym (ap (next_record _ _ _) c.in-Second.is)
