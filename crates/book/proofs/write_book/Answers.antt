-- `book::write_book` meets its contract. Assumes nothing.
use native.Mathlib.Omega.{arith}
use mathlib.Core.Path.{◌≡◌, refl, sym}
use Prim.Native.Nat.{◌≤◌}
use Rattle.std.proofs.lemmas.Result.{err_from_is_err_and}
use Rattle.frame.specs.Refusals.{lowest_of}
use Rattle.book.specs.Promises.{write_tests}
use Rattle.book.proofs.Tested.{none_holds, accepted_by, some_holds, refused_as}
use Rattle.book.proofs.write_book.Goals as goal

pub returns-in_err-writable : goal.returns-in_err-writable
returns-in_err-writable c =
    let a = c.args in
    let e = c.in_err-writable.ensures.given in
    let p = err_from_is_err_and c.from_residual.result c.from_residual.ensures.1 in
    let z : 1 ≤ lowest_of _ = some_holds (write_tests a.heads.now a.numbers.now a.count a.book.now) _ (sym e) in
    rw (p.1, p.2) (record { given = sym (refused_as _ _ _ (sym e)); accepted = λ n. absurd (omega arith); refused = λ _. refl })

pub returns : goal.returns
returns c =
    let a = c.args in
    let z : lowest_of _ ≡ 0 = none_holds (write_tests a.heads.now a.numbers.now a.count a.book.now) _ (sym c.in_ok-writable.ensures.given) in
    record {
      given = sym (accepted_by _ _ z);
      accepted = λ _. c.put_book.ensures;
      refused = λ h. absurd (omega arith);
    }
