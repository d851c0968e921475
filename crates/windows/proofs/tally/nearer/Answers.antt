-- `windows::tally::nearer` meets its contract. Assumes nothing.
use Prim.Native.Nat.{◌≤◌, ◌<◌}
use borrow.Author.Tests.{lt-ltb, le-ltb}
use mathlib.Core.Path.{◌≡◌, sym, ap, ◌∙◌}
use Rattle.std.specs.Prelude.{Option, Some, None}
use Rattle.base.proofs.Pick.{pick_yes, pick_no}
use Rattle.windows.specs.Steps.{nearer}
use Rattle.windows.specs.declared.tally.Near.{Near}
use Rattle.windows.proofs.tally.nearer.Goals as goal

stays : (o : Option Near) (k m : Near) → o ≡ Some k → k.distance ≤ m.distance → Some k ≡ nearer o m
unfolding nearer
stays o k m e l = pick_no _ (Some m) (Some k) (le-ltb _ _ l) ∙ ap (λ x. nearer x m) (sym e)

goes : (o : Option Near) (k m : Near) → o ≡ Some k → m.distance < k.distance → Some m ≡ nearer o m
unfolding nearer
goes o k m e l = pick_yes _ (Some m) (Some k) (lt-ltb _ _ l) ∙ ap (λ x. nearer x m) (sym e)

first : (o : Option Near) (m : Near) → o ≡ None → Some m ≡ nearer o m
unfolding nearer
first o m e = ap (λ x. nearer x m) (sym e)

pub returns-in-Some : goal.returns-in-Some
returns-in-Some c = stays c.args.kept c.in-Some.old c.args.near c.in-Some.is c.if-old-near.true

pub returns-in_default : goal.returns-in_default
returns-in_default c = goes c.args.kept c.in-Some.old c.args.near c.in-Some.is c.if-old-near.false

pub returns-in_default-2 : goal.returns-in_default-2
returns-in_default-2 c = first c.args.kept c.args.near c.in_default.is
