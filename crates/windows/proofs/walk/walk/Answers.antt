-- `windows::walk::walk` meets its contract. Assumes nothing.
use native.Mathlib.Omega.{arith}
use Prim.Native.Nat.{ℕ, ◌≤◌}
use mathlib.Core.Path.{◌≡◌, sym, ap, subst, ◌∙◌}
use mathlib.Core.Bool.{not}
use mathlib.Core.List.{List, ◌++◌}
use lib.ListN.{length, get_or, take, drop}
use lib.Seq.{length-take-le}
use Rattle.base.specs.Loops.{filled}
use Rattle.base.proofs.Every.{every_begin, every_more, every_stops, every_end}
use Rattle.frame.proofs.Given.{answer_first, answer_next, answer_none}
use Rattle.windows.specs.Rectangles.{Valid, valid, every_rectangle, rectangle_at}
use Rattle.windows.specs.Steps.{no_tally, met, tallies}
use Rattle.windows.specs.declared.tally.Tally.{Tally}
use Rattle.windows.proofs.Touching.{valid_is}
use Rattle.windows.proofs.Tallies.{tallies_begin, tallies_long, tallies_few, tallies_step}
use Rattle.windows.proofs.walk.walk.Goals as goal

pub loop-j-init : goal.loop-j-init
loop-j-init c =
    let p = c.requires in
    record { met = p.4 ∙ tallies_begin c.args.patches.now c.args.windows.now c.args.k p.1; boxes = every_begin _ }

pub returns-then-not-valid : goal.returns-then-not-valid
returns-then-not-valid c =
    let tested = sym (c.valid.ensures ∙ ap valid c.box_at-b.ensures) ∙ c.if-not-valid.true in
    record { tested = answer_first _ _ _ _ (ap not (every_stops _ c.loop-j.j c.args.n (omega arith) tested)); told = tt }

-- as many tallies are handed on as are asked for
handed : (patches windows : List ℕ) (k j : ℕ) (x : List Tally) → k ≤ 64 → x ≡ tallies patches j windows k → length (take k x) ≡ k
handed patches windows k j x few e =
    length-take-le k x (omega (arith, ap (λ (l : List Tally). length l) e, tallies_long patches windows k few j))

pub meet_all-requires : goal.meet_all-requires
meet_all-requires c =
    let k = c.args.k in
    let x = c.loop-j.tallies in
    let p = c.requires in
    let long : length (take k x) ≡ k = handed _ _ k c.loop-j.j x p.1 c.loop-j.invariant.met in
    let tested = sym (c.valid.ensures ∙ ap valid c.box_at-b.ensures) ∙ c.if-not-valid.false in (
      omega (arith, p.2),
      ap (every_rectangle c.args.windows.now) long ∙ p.3,
      subst Valid (sym c.box_at-b.ensures) (valid_is _ tested),
      omega arith,
      λ i l. subst (λ (y : List Tally). (get_or (take k y) i no_tally).count ≤ c.loop-j.j) (sym c.loop-j.invariant.met)
          (tallies_few c.args.patches.now c.args.windows.now k p.1 c.loop-j.j i (omega arith)),
    )

pub loop-j-preserved : goal.loop-j-preserved
loop-j-preserved c =
    let k = c.args.k in
    let j = c.loop-j.j in
    let x = c.loop-j.tallies in
    let p = c.requires in
    let tested = sym (c.valid.ensures ∙ ap valid c.box_at-b.ensures) ∙ c.if-not-valid.false in
    let step : List Tally → ℕ → List Tally =
    λ y n. filled (λ i. met (rectangle_at c.args.windows.now i) c.box_at-b.result j (get_or (take k y) i no_tally)) n (take k y) ++ drop k y in
    record {
      met = ap (λ y. y ++ drop k x) c.meet_all.ensures
          ∙ ap (step x) (handed _ _ k j x p.1 c.loop-j.invariant.met)
          ∙ ap (λ y. step y k) c.loop-j.invariant.met
          ∙ tallies_step c.args.patches.now c.args.windows.now k p.1 j c.box_at-b.result c.box_at-b.ensures;
      boxes = every_more _ j c.loop-j.invariant.boxes tested;
    }

pub returns : goal.returns
returns c =
    let l = c.loop-j in
    let e : l.j ≡ c.args.n = omega arith in
    record {
      tested = answer_next _ _ _ _ (ap not (every_end _ l.j _ l.invariant.boxes e)) (answer_none _);
      told = l.invariant.met ∙ ap (λ j. tallies c.args.patches.now j c.args.windows.now c.args.k) e;
    }
