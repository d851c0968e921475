-- `book::tests::accepted` meets its contract. Assumes nothing.
use borrow.Author.Rules.{rules}
use native.Mathlib.Omega.{arith}
use mathlib.Core.Bool.{Bool, false}
use mathlib.Core.List.{List}
use mathlib.Core.Path.{◌≡◌, sym, ap, ◌∙◌}
use Prim.Native.Nat.{ℕ, ◌-◌, ◌/◌}
use lib.ListN.{length}
use Rattle.std.specs.Prelude.{Ok}
use Rattle.book.specs.Layout.{count_in, key_in}
use Rattle.book.specs.Promises.{keys_rise, header_wrong, records_held}
use Rattle.book.proofs.Refusing.{whole, count_is, header_gives, records_give, keys_give, none_gives}
use Rattle.book.proofs.tests.accepted.Goals as goal

-- a test of as many records as the length has room for
counted : (b : List ℕ) {t u : Bool} (p : ℕ → Bool) → header_wrong b ≡ false → t ≡ p ((length b - 16) / 120) → t ≡ u → p (count_in b) ≡ u
counted b p h e d = ap p (sym (count_is b h)) ∙ sym e ∙ d

pub returns-then-header_wrong-clause-given : goal.returns-then-header_wrong-clause-given
returns-then-header_wrong-clause-given c = header_gives _ (sym c.header_wrong.ensures ∙ c.if-header_wrong.true)

pub overflow_sub-count : goal.overflow_sub-count
overflow_sub-count c = omega (arith, whole _ (sym c.header_wrong.ensures ∙ c.if-header_wrong.false))

pub records_held-requires : goal.records_held-requires
records_held-requires c = omega (arith, whole _ (sym c.header_wrong.ensures ∙ c.if-header_wrong.false))

pub returns-then-not-records_held-clause-given : goal.returns-then-not-records_held-clause-given
returns-then-not-records_held-clause-given c =
    let h : header_wrong c.args.book.now ≡ false = sym c.header_wrong.ensures ∙ c.if-header_wrong.false in
    records_give _ h (counted _ (records_held _) h c.records_held.ensures c.if-not-records_held.true)

pub returns-then-not-keys_rise-clause-given : goal.returns-then-not-keys_rise-clause-given
returns-then-not-keys_rise-clause-given c =
    let b = c.args.book.now in
    let h : header_wrong b ≡ false = sym c.header_wrong.ensures ∙ c.if-header_wrong.false in
    let r = counted _ (records_held _) h c.records_held.ensures c.if-not-records_held.false in
    keys_give _ h r (counted _ (keys_rise (key_in b)) h (c.keys_rise.ensures (key_in b) (λ j k l p. search rules)) c.if-not-keys_rise.true)

pub returns : goal.returns
returns c =
    let b = c.args.book.now in
    let h : header_wrong b ≡ false = sym c.header_wrong.ensures ∙ c.if-header_wrong.false in
    let r = counted _ (records_held _) h c.records_held.ensures c.if-not-records_held.false in
    let k = counted _ (keys_rise (key_in b)) h (c.keys_rise.ensures (key_in b) (λ j k l p. search rules)) c.if-not-keys_rise.false in
    record { given = ap Ok (count_is _ h) ∙ none_gives _ h r k; whole = whole _ h }
