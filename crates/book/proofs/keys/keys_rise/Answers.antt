-- `book::keys::keys_rise` meets its contract. Assumes nothing.
use native.Mathlib.Omega.{arith}
use mathlib.Core.Bool.{true, false}
use mathlib.Core.Path.{◌≡◌, sym, subst}
use Prim.Native.Nat.{◌+◌, ◌-◌}
use Rattle.base.specs.Loops.{every}
use Rattle.base.proofs.Every.{every_begin, every_more, every_stops, every_end}
use Rattle.book.specs.Promises.{rises_at, keys_rise}
use Rattle.book.proofs.Order.{below_next}
use Rattle.book.proofs.keys.keys_rise.Goals as goal

pub loop-j-init : goal.loop-j-init
loop-j-init g c = (λ f h. every_begin (rises_at f), omega arith)

pub loop-j-preserved : goal.loop-j-preserved
loop-j-preserved g c = (
  λ f h.
      let j = c.loop-j.j in
      let e = below_next f c.key.result c.key-in-loop-j.result j c.loop-j.auto.j (h (j - 1) _ (omega arith) c.key.ensures) (h j _ (omega arith) c.key-in-loop-j.ensures) in
      let more : rises_at f (j - 1) ≡ true = cc in
      let q : j - 1 + 1 ≡ j + 1 - 1 = omega arith in
      subst (λ k. every k (rises_at f) ≡ true) q (every_more (rises_at f) (j - 1) (c.loop-j.invariant.0 f h) more),
  omega arith,
)

pub returns-then-not-rises : goal.returns-then-not-rises
unfolding keys_rise
returns-then-not-rises g c = λ f h.
    let j = c.loop-j.j in
    let e = below_next f c.key.result c.key-in-loop-j.result j c.loop-j.auto.j (h (j - 1) _ (omega arith) c.key.ensures) (h j _ (omega arith) c.key-in-loop-j.ensures) in
    let stops : rises_at f (j - 1) ≡ false = cc in
    sym (every_stops (rises_at f) (j - 1) (c.args.count - 1) (omega arith) stops)

pub returns : goal.returns
unfolding keys_rise
returns g c = λ f h. sym (every_end (rises_at f) (c.loop-j.j - 1) (c.args.count - 1) (c.loop-j.invariant.0 f h) (omega arith))
