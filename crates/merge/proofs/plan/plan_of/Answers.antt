-- `merge::plan::plan_of` meets its contract. The loop's invariant: the plan is that of the records passed. Assumes nothing.
use borrow.Author.Tests.{ltb-true, ltb-false}
use native.Mathlib.Omega.{arith}
use mathlib.Core.Logic.{◌⊎◌, inl, inr, ⊎_elim}
use mathlib.Core.Bool.{true, false, ◌||◌}
use mathlib.Core.Path.{◌≡◌, sym, ap₂, subst}
use Prim.Native.Nat.{ℕ, ◌+◌, ◌-◌, ◌≤◌, ◌<◌}
use lib.Dec.{ltb}
use Rattle.base.proofs.Tests.{or_cases, or_left, or_right}
use Rattle.book.specs.Layout.{count_in}
use Rattle.merge.proofs.Books.{whole}
use Rattle.merge.proofs.Walks.{Turn, turn, turn_held, turn_less}
use Rattle.merge.proofs.Plans.{Planned, planned_begin, planned_next, planned_end}
use Rattle.merge.proofs.plan.plan_of.Goals as goal

pub loop-at-init : goal.loop-at-init
loop-at-init c =
    let a = c.args.first.now in
    let b = c.args.second.now in
    let e : c.default-at.result ≡ record { first = 0; second = 0 } = ap₂ (λ i j. record { first = i; second = j }) c.default-at.ensures.0 c.default-at.ensures.1 in
    let d : c.default-p.result ≡ record { count = 0; differs = false } = ap₂ (λ n t. record { count = n; differs = t }) c.default-p.ensures.0 c.default-p.ensures.1 in
    subst (λ q. Planned a b q c.default-p.result) (sym e) (subst (Planned a b (record { first = 0; second = 0 })) (sym d) (planned_begin a b))

pub next-side-requires : goal.next-side-requires
next-side-requires c =
    (record { first_whole = whole _ c.requires.first_accepted; second_whole = whole _ c.requires.second_accepted }, c.loop-at.invariant.within)

-- a record is left, as the loop tests it
some_left : {i j n m k l : ℕ} → n ≡ k → m ≡ l → (ltb i n || ltb j m) ≡ true → (i < k) ⊎ (j < l)
some_left {i} {j} {n} {m} e d h = ⊎_elim (λ t. inl (subst (λ x. i < x) e (ltb-true i n t))) (λ t. inr (subst (λ x. j < x) d (ltb-true j m t))) (or_cases _ _ h)

pub count_key-p-requires : goal.count_key-p-requires
count_key-p-requires c =
    let k = c.loop-at in
    let turned : Turn c.args.first.now c.args.second.now k.at c.next-side.result =
    subst (Turn _ _ k.at) (sym c.next-side.ensures) (turn _ _ k.at k.invariant.within (some_left c.count-firsts.ensures.0 c.count-seconds.ensures.0 c.loop-at-test.true)) in (
      record { first_whole = whole _ c.requires.first_accepted; second_whole = whole _ c.requires.second_accepted },
      turn_held _ _ _ _ turned,
      omega arith,
    )

pub loop-at-smaller : goal.loop-at-smaller
loop-at-smaller c =
    let k = c.loop-at in
    let turned : Turn c.args.first.now c.args.second.now k.at c.next-side.result =
    subst (Turn _ _ k.at) (sym c.next-side.ensures) (turn _ _ k.at k.invariant.within (some_left c.count-firsts.ensures.0 c.count-seconds.ensures.0 c.loop-at-test.true)) in
    subst (λ q. (count_in c.args.first.now - q.first) + (count_in c.args.second.now - q.second)
    < (count_in c.args.first.now - k.at.first) + (count_in c.args.second.now - k.at.second)) (sym c.pass-at.ensures) (turn_less _ _ k.at _ turned)

pub loop-at-preserved : goal.loop-at-preserved
loop-at-preserved c =
    let k = c.loop-at in
    let a = c.args.first.now in
    let b = c.args.second.now in
    let turned : Turn a b k.at c.next-side.result =
    subst (Turn _ _ k.at) (sym c.next-side.ensures) (turn _ _ k.at k.invariant.within (some_left c.count-firsts.ensures.0 c.count-seconds.ensures.0 c.loop-at-test.true)) in
    subst (λ q. Planned a b q c.count_key-p.result) (sym c.pass-at.ensures)
    (subst (Planned a b _) (sym c.count_key-p.ensures) (planned_next a b c.requires.first_accepted c.requires.second_accepted k.at k.p k.invariant _ turned))

pub returns : goal.returns
returns c =
    let k = c.loop-at in
    let h : c.count-firsts.result ≤ k.at.first = ltb-false _ _ (or_left _ _ c.loop-at-test.false) in
    let l : c.count-seconds.result ≤ k.at.second = ltb-false _ _ (or_right (ltb k.at.first c.count-firsts.result) _ c.loop-at-test.false) in
    let r = planned_end c.args.first.now c.args.second.now k.at k.p k.invariant (omega arith) (omega arith) in
    (r.0, r.1, omega arith)
