-- `search::stages::fresh` meets its contract. The loop's invariant: no entry before has the term. Assumes nothing.
use mathlib.Core.Bool.{true, false, not, cond}
use lib.Ieee.{eq}
use Rattle.base.proofs.Every.{every_begin, every_more, every_stops, every_end}
use Rattle.search.specs.Stages.{k_at, fresh}
use native.Mathlib.Omega.{arith}
use mathlib.Core.Path.{◌≡◌, sym, ap}
use Rattle.search.proofs.stages.fresh.Goals as goal

pub loop-earlier-init : goal.loop-earlier-init
loop-earlier-init c = every_begin _

pub returns-then-k_at-k : goal.returns-then-k_at-k
unfolding fresh
returns-then-k_at-k c =
    let a = c.args in
    let l = c.loop-earlier in
    let e : eq (k_at a.number a.center l.earlier) (k_at a.number a.center a.entry) ≡ true = cc in
    (sym (ap (λ b. cond b 1 0) (every_stops _ l.earlier a.entry (omega arith) (ap not e))), omega arith)

pub loop-earlier-preserved : goal.loop-earlier-preserved
loop-earlier-preserved c =
    let a = c.args in
    let l = c.loop-earlier in
    let e : eq (k_at a.number a.center l.earlier) (k_at a.number a.center a.entry) ≡ false = cc in
    every_more _ l.earlier l.invariant (ap not e)

pub returns : goal.returns
unfolding fresh
returns c =
    let a = c.args in
    let l = c.loop-earlier in
    (sym (ap (λ b. cond b 1 0) (every_end _ l.earlier a.entry l.invariant (omega arith))), omega arith)
