-- `book::read_book` meets its contract. Assumes nothing.
use native.Mathlib.Omega.{arith}
use mathlib.Core.Path.{◌≡◌, refl, sym, ap, ◌∙◌}
use Prim.Native.Nat.{◌*◌, ◌≤◌}
use Rattle.std.proofs.lemmas.Result.{err_from_is_err_and}
use Rattle.base.specs.Loops.{filled}
use Rattle.frame.specs.Refusals.{lowest_of}
use Rattle.book.specs.Layout.{count_in, head_entry, number_entry}
use Rattle.book.specs.Promises.{read_tests}
use Rattle.book.proofs.Tested.{none_holds, value_given, some_holds}
use Rattle.book.proofs.read_book.Goals as goal

pub returns-in_err-count : goal.returns-in_err-count
returns-in_err-count c =
    let e = c.in_err-count.ensures.given in
    let p = err_from_is_err_and c.from_residual.result c.from_residual.ensures.1 in
    let z : 1 ≤ lowest_of _ = some_holds (read_tests c.args.book.now c.args.heads.now c.args.numbers.now) _ (sym e) in
    rw (p.1, p.2) (record { given = e; heads_are = λ n. absurd (omega arith); numbers_are = λ n. absurd (omega arith); refused = λ _. (refl, refl) })

pub read_heads-requires : goal.read_heads-requires
read_heads-requires c =
    let n : c.in_ok-count.count ≡ count_in c.args.book.now = value_given _ _ (sym c.in_ok-count.ensures.given) in
    let h = c.in_ok-count.ensures.held in
    (omega (arith, h.whole), omega (arith, h.heads_held))

pub read_numbers-requires : goal.read_numbers-requires
read_numbers-requires c =
    let n : c.in_ok-count.count ≡ count_in c.args.book.now = value_given _ _ (sym c.in_ok-count.ensures.given) in
    let h = c.in_ok-count.ensures.held in
    (omega (arith, h.whole), omega (arith, h.numbers_held))

pub returns : goal.returns
returns c =
    let a = c.args in
    let e = c.in_ok-count.ensures.given in
    let n : c.in_ok-count.count ≡ count_in a.book.now = value_given _ _ (sym e) in
    record {
      given = e;
      heads_are = λ _. c.read_heads.ensures ∙ ap (λ k. filled (head_entry a.book.now) (3 * k) a.heads.now) n;
      numbers_are = λ _. c.read_numbers.ensures ∙ ap (λ k. filled (number_entry a.book.now) (13 * k) a.numbers.now) n;
      refused = λ h. let z : lowest_of _ ≡ 0 = none_holds (read_tests a.book.now a.heads.now a.numbers.now) _ (sym e) in absurd (omega arith);
    }
