-- `merge::fill::put_joined` meets its contract. Assumes nothing.
use native.Mathlib.Omega.{arith}
use mathlib.Core.List.{◌++◌}
use mathlib.Core.Path.{◌≡◌, refl, sym, ap₂, subst, ◌∙◌}
use Prim.Native.Nat.{◌+◌, ◌-◌, ◌*◌, ◌≤◌}
use lib.ListN.{length, drop}
use borrow.Rule.Slice.PartMut.{mid_len, put_mid}
use Rattle.base.proofs.Parts.{drop_later, lent_rest}
use Rattle.book.specs.Layout.{book_length}
use Rattle.merge.proofs.Books.{count_few}
use Rattle.merge.proofs.Walks.{Turn, turn, turn_held}
use Rattle.merge.proofs.Filling.{Filled, filled_none, filled_more, filled_all, some_left}
use Rattle.merge.proofs.fill.put_joined.Goals as goal

pub loop-k-init : goal.loop-k-init
loop-k-init c =
    let l = c.put_header.new.area ++ drop 16 c.args.target.now in
    let e : c.default-at.result ≡ record { first = 0; second = 0 } = ap₂ (λ i j. record { first = i; second = j }) c.default-at.ensures.0 c.default-at.ensures.1 in
    subst (λ q. Filled c.args.first.now c.args.second.now c.args.count l q l 0) (sym e) (filled_none _ _ _ _ c.args.target.now c.put_header.ensures)

pub next-side-requires : goal.next-side-requires
next-side-requires c = (c.requires.0, c.loop-k.invariant.within)

pub put_next-requires : goal.put_next-requires
put_next-requires c =
    let k = c.loop-k in
    let turned : Turn c.args.first.now c.args.second.now k.at c.next-side.result =
    subst (Turn _ _ k.at) (sym c.next-side.ensures) (turn _ _ k.at k.invariant.within (some_left _ _ _ _ k.at _ k.k k.invariant (omega arith) c.requires.1)) in
    (c.requires.0, turn_held _ _ _ _ turned, mid_len (16 + 120 * k.k) (16 + 120 * k.k + 120) k.target (omega arith) ∙ omega arith)

pub pass-at-requires : goal.pass-at-requires
pass-at-requires c =
    let k = c.loop-k in (
      omega (arith, k.invariant.within.first_within, count_few c.args.first.now (λ i. omega (arith, c.type_inv.first i)) (omega (arith, c.requires.0.first_whole))),
      omega (arith, k.invariant.within.second_within, count_few c.args.second.now (λ i. omega (arith, c.type_inv.second i)) (omega (arith, c.requires.0.second_whole))),
    )

pub loop-k-preserved : goal.loop-k-preserved
loop-k-preserved c =
    let k = c.loop-k in
    let a = c.args.first.now in
    let b = c.args.second.now in
    let l = c.put_header.new.area ++ drop 16 c.args.target.now in
    let x = c.put_next.new.area in
    let kept = c.put_next.auto.area in
    let turned : Turn a b k.at c.next-side.result =
    subst (Turn _ _ k.at) (sym c.next-side.ensures) (turn _ _ k.at k.invariant.within (some_left _ _ _ _ k.at _ k.k k.invariant (omega arith) c.requires.1)) in
    subst (λ q. Filled a b c.args.count l q (put_mid (book_length k.k) (book_length k.k + 120 - book_length k.k) k.target x) (k.k + 1)) (sym c.pass-at.ensures)
    (filled_more a b c.args.count l k.at k.target k.k _ x k.invariant turned (omega arith) c.put_next.ensures
    (kept ∙ mid_len (16 + 120 * k.k) (16 + 120 * k.k + 120) k.target (omega arith) ∙ omega arith) kept)

pub returns : goal.returns
returns c =
    let k = c.loop-k in
    let h = c.put_header in
    let t = c.args.target.now in
    let n = c.args.count in
    let whole : 16 ≤ length t = omega arith in
    let rest = drop_later 16 (book_length n) (h.new.area ++ drop 16 t) t (omega arith) (lent_rest h.new.area t 16 16 whole h.auto.area refl) in
    filled_all _ _ n _ k.at k.target k.k t k.invariant (omega arith) c.requires.1 rest
