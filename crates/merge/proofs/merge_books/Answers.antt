-- `merge::merge_books` meets its contract. Assumes nothing.
use borrow.Author.Tests.{ltb-false}
use native.Mathlib.Omega.{arith}
use mathlib.Core.Bool.{Bool, false, ◌||◌}
use mathlib.Core.List.{List, ◌++◌}
use mathlib.Core.Path.{◌≡◌, refl, sym, ap, ap₂, subst, ◌∙◌}
use Prim.Native.Nat.{ℕ, ◌≤◌}
use lib.Dec.{ltb}
use lib.ListN.{length, take, drop}
use lib.Seq.{take_at}
use Rattle.std.specs.Prelude.{Ok, Err}
use Rattle.std.proofs.lemmas.Result.{err_from_is_err_and}
use Rattle.base.proofs.Tests.{or_left, or_right}
use Rattle.frame.specs.Refusals.{lowest_of, answer_for}
use Rattle.frame.specs.declared.refusals.Refusal.{Refusal}
use Rattle.book.specs.Layout.{book_length}
use Rattle.book.proofs.Tested.{none_holds, some_holds}
use Rattle.merge.specs.Merged.{Accepted, Joined, joined_book, size, differs}
use Rattle.merge.specs.Promises.{merge_tests, Merging}
use Rattle.merge.proofs.Books.{whole}
use Rattle.merge.proofs.Joining.{agreed, joined_is, joined_long}
use Rattle.merge.proofs.Refusing.{accepted_book, first_gives, second_gives, short_gives, unjoined_gives, none_gives}
use Rattle.merge.proofs.merge_books.Goals as goal

-- ---- a refusal, and an acceptance

refusal : (a b t : List ℕ) {r : Refusal} → Err r ≡ answer_for (merge_tests a b t) (book_length (size a b)) → Merging a b t t (Err r)
refusal a b t e =
    let z : 1 ≤ lowest_of (merge_tests a b t) = some_holds (merge_tests a b t) (book_length (size a b)) (sym e) in
    record {
      given = e;
      accepted = λ n. absurd (omega arith);
      means = λ n. absurd (omega arith);
      refused = λ _. refl;
    }

acceptance : (a b t t' : List ℕ) → Accepted a → Accepted b → book_length (size a b) ≤ length t → (differs a b || ltb 4294967295 (book_length (size a b))) ≡ false
    → t' ≡ joined_book a b ++ drop (book_length (size a b)) t → Merging a b t t' (Ok (book_length (size a b)))
acceptance a b t t' A B h e w =
    let given = none_gives (book_length (size a b)) a b t A B h e in
    let z : lowest_of (merge_tests a b t) ≡ 0 = none_holds (merge_tests a b t) (book_length (size a b)) (sym given) in
    let few : book_length (size a b) ≤ 4294967295 = ltb-false 4294967295 (book_length (size a b)) (or_right (differs a b) _ e) in
    let front : take (book_length (size a b)) t' ≡ joined_book a b = ap (take (book_length (size a b))) w ∙ take_at (joined_book a b) _ (book_length (size a b)) (joined_long a b A B) in
    record {
      given = given;
      accepted = λ _. w;
      means = λ _. subst (Joined a b) (sym front) (joined_is a b A B (omega arith) (agreed a b A B (or_left (differs a b) _ e)));
      refused = λ r. absurd (omega arith);
    }

pub returns-in_err-accepted : goal.returns-in_err-accepted
returns-in_err-accepted c =
    let p = err_from_is_err_and c.from_residual.result c.from_residual.ensures.1 in
    rw (p.1, p.2) (refusal _ _ _ (first_gives _ _ _ _ c.in_err-accepted.ensures.given))

pub returns-in_err-accepted-2 : goal.returns-in_err-accepted-2
returns-in_err-accepted-2 c =
    let r = c.from_residual-in_err-accepted-2 in
    let p = err_from_is_err_and r.result r.ensures.1 in
    rw (p.1, p.2) (refusal _ _ _ (second_gives _ _ _ _ (accepted_book _ c.in_ok-accepted.ensures.given) c.in_err-accepted-2.ensures.given))

pub plan_of-plan-requires : goal.plan_of-plan-requires
plan_of-plan-requires c = record { first_accepted = accepted_book _ c.in_ok-accepted.ensures.given; second_accepted = accepted_book _ c.in_ok-accepted-2.ensures.given }

pub returns-then-target-length : goal.returns-then-target-length
returns-then-target-length c =
    let p = c.plan_of-plan.ensures in
    let A = accepted_book _ c.in_ok-accepted.ensures.given in
    let B = accepted_book _ c.in_ok-accepted-2.ensures.given in
    refusal _ _ _ (short_gives _ _ _ _ A B (omega (arith, c.if-target-length.true, p.0)))

-- the code's test, and the tests'
tested : (a b : List ℕ) (n : ℕ) (d l : Bool) {t : Bool} → n ≡ size a b → d ≡ differs a b → l ≡ ltb 4294967295 (book_length n) → (d || l) ≡ t
    → (differs a b || ltb 4294967295 (book_length (size a b))) ≡ t
tested a b n d l e f g h = sym (ap₂ ◌||◌ f (g ∙ ap (λ n. ltb 4294967295 (book_length n)) e)) ∙ h

pub returns-then-plan-too_long : goal.returns-then-plan-too_long
returns-then-plan-too_long c =
    let p = c.plan_of-plan.ensures in
    let A = accepted_book _ c.in_ok-accepted.ensures.given in
    let B = accepted_book _ c.in_ok-accepted-2.ensures.given in
    refusal _ _ _ (unjoined_gives _ _ _ _ A B (omega (arith, c.if-target-length.false, p.0)) (tested _ _ _ _ _ p.0 p.1 c.too_long.ensures c.if-plan-too_long.true))

pub put_joined-requires : goal.put_joined-requires
put_joined-requires c =
    let a = c.args.first.now in
    let b = c.args.second.now in
    let p = c.plan_of-plan.ensures in
    let few = tested a b _ _ _ p.0 p.1 c.too_long.ensures c.if-plan-too_long.false in
    let f : book_length (size a b) ≤ 4294967295 = ltb-false 4294967295 (book_length (size a b)) (or_right (differs a b) _ few) in (
      record { first_whole = whole _ (accepted_book _ c.in_ok-accepted.ensures.given); second_whole = whole _ (accepted_book _ c.in_ok-accepted-2.ensures.given) },
      p.0,
      omega arith,
      omega (arith, p.0),
    )

pub returns : goal.returns
returns c =
    let a = c.args.first.now in
    let b = c.args.second.now in
    let t = c.args.target.now in
    let p = c.plan_of-plan.ensures in
    let A = accepted_book _ c.in_ok-accepted.ensures.given in
    let B = accepted_book _ c.in_ok-accepted-2.ensures.given in
    let few = tested a b _ _ _ p.0 p.1 c.too_long.ensures c.if-plan-too_long.false in
    let w = c.put_joined.ensures ∙ ap (λ k. joined_book a b ++ drop (book_length k) t) p.0 in
    subst (λ k. Merging a b t c.put_joined.new.target (Ok (book_length k))) {x = size a b} {y = c.plan_of-plan.result.count} (sym p.0)
    (acceptance a b _ _ A B (omega (arith, c.if-target-length.false, p.0)) few w)
