-- `blobs::outline::side` meets its contract. Assumes nothing.
use Prim.Native.Nat.{ℕ, ◌-◌, min}
use native.Mathlib.Decide.{ℕ_discrete}
use native.Mathlib.Omega.{arith}
use mathlib.Core.Path.{◌≡◌, sym, ap, ◌∙◌}
use mir.Val.{bool_byte}
use lib.Dec.{eqb}
use lib.ListN.{get_or}
use borrow.Author.Tests.{eq-eqb, ne_eqb}
use Rattle.blobs.specs.Patches.{light}
use Rattle.blobs.specs.Neighbours.{side_to}
use Rattle.blobs.proofs.outline.side.Goals as goal

by_cases : (b : ℕ) → Dec (b ≡ 0) → bool_byte (eqb b 0) ≡ 1 - min b 1
by_cases b (yes e) = ap bool_byte (eq-eqb b 0 e) ∙ omega arith
by_cases b (no o) = ap bool_byte (ne_eqb b 0 o) ∙ omega arith

pub returns-in-Some : goal.returns-in-Some
unfolding side_to light
returns-in-Some c =
    let b = get_or c.args.mask.now c.in-Some.i 0 in
    by_cases b (ℕ_discrete b 0) ∙ ap (side_to c.args.mask.now) (sym c.in-Some.is)

pub returns-in-None : goal.returns-in-None
unfolding side_to
returns-in-None c = ap (side_to c.args.mask.now) (sym c.in-None.is)
