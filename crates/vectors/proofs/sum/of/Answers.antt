-- A turn adds the next.
use Rattle.std.proofs.Common.{◌≡◌, ◌∙◌, get_or, sym, ap, arith, map}
use Rattle.std.proofs.lemmas.List.{get_or-map, length-map}
use Rattle.vectors.specs.Sums.{added, sum_of}
use Rattle.base.proofs.Turns.{turns_begin, turns_step, turns_end}
use Rattle.vectors.proofs.sum.of.Goals as goal

pub loop-item-init : goal.loop-item-init
loop-item-init g c = record { so_far = turns_begin _ _; bound = omega arith }

pub loop-item-preserved : goal.loop-item-preserved
loop-item-preserved g c =
    let l = c.loop-item in
    let number = g.T.Number.number in
    let item : get_or (map number c.args.items.now) l.item-index 0 ≡ number (get_or c.args.items.now l.item-index c.item-item.result) =
    get_or-map _ _ _ _ _ c.loop-item-test.true in
    let e : c.add-sum.result ≡ added l.sum (get_or (map number c.args.items.now) l.item-index 0) =
    c.add-sum.ensures.next ∙ ap (added l.sum) (c.number.ensures ∙ ap number c.item-item.is ∙ sym item) in
    record { so_far = e ∙ turns_step _ _ _ l.invariant.so_far; bound = c.add-sum.ensures.bound }

pub returns : goal.returns
unfolding sum_of
returns g c = turns_end _ _ _ _ c.loop-item.invariant.so_far (omega (arith, length-map c.args.items.now g.T.Number.number))
