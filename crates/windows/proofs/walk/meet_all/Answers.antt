-- `windows::walk::meet_all` meets its contract. Assumes nothing.
use native.Mathlib.Nat.{le_refl}
use native.Mathlib.Omega.{arith}
use Prim.Native.Nat.{ℕ}
use mathlib.Core.Path.{◌≡◌, sym, ap, ap₂, subst, ◌∙◌}
use mathlib.Core.List.{List}
use lib.ListN.{length, get_or}
use Rattle.base.specs.Loops.{filled}
use Rattle.base.proofs.Every.{every_one}
use Rattle.base.proofs.Plane.{filled_begin, filled_step, filled_end, filled_past}
use Rattle.windows.specs.Rectangles.{Valid}
use Rattle.windows.specs.Steps.{no_tally, met}
use Rattle.windows.specs.declared.tally.Tally.{Tally}
use Rattle.windows.proofs.Touching.{valid_is}
use Rattle.windows.proofs.walk.meet_all.Goals as goal

pub loop-i-init : goal.loop-i-init
loop-i-init c = filled_begin _ _

-- the tally that is next is as it was
next : (f : ℕ → Tally) (s x : List Tally) (i : ℕ) → x ≡ filled f i s → get_or x i no_tally ≡ get_or s i no_tally
next f s x i e = ap (λ l. get_or l i no_tally) e ∙ filled_past f s i i no_tally (le_refl i)

pub meet-requires : goal.meet-requires
meet-requires c =
    let p = c.requires in (
      subst Valid (sym c.rectangle_at.ensures) (valid_is _ (every_one _ (length c.args.tallies.now) p.1 c.loop-i.i (omega arith))),
      p.2,
      omega (arith, ap (λ (t : Tally). t.count) (next _ _ _ _ c.loop-i.invariant), p.4 c.loop-i.i (omega arith)),
    )

pub loop-i-preserved : goal.loop-i-preserved
loop-i-preserved c =
    let a = c.args in
    filled_step _ _ c.loop-i.i c.meet.new.self c.loop-i.invariant
    (c.meet.ensures ∙ ap₂ (λ r t. met r a.b a.j t) c.rectangle_at.ensures (next _ _ _ _ c.loop-i.invariant))

pub returns : goal.returns
returns c = filled_end _ _ _ _ c.loop-i.invariant (omega arith)
