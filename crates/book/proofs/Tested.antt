-- The answer to a list of tests: what it is where it is accepted, and what it is with other tests behind. Assumes nothing.
use mathlib.Core.Path.{◌≡◌, refl, sym, ap, subst, ◌∙◌}
use mathlib.Core.Bool.{Bool, true, false, cond}
use mathlib.Core.List.{List, [], ◌∷◌, ◌++◌, append-nil}
use Prim.Native.Nat.{◌≤◌}
use native.Mathlib.Omega.{arith}
use Rattle.std.specs.Prelude.{Ok, Err}
use Rattle.frame.specs.Refusals.{number, number_of, Check, lowest_of, answer_for}
use Rattle.frame.specs.declared.refusals.Refusal.{Refusal}
use Rattle.frame.proofs.Given.{answer_number, positive}

module _ {A : Type 0} where
  -- accepted: no test holds, and the value is given
  pub none_holds : (p : List Check) (v : A) {x : A} → answer_for p v ≡ Ok x → lowest_of p ≡ 0
  none_holds p v e = sym (answer_number v p) ∙ ap number_of e

  pub value_given : (p : List Check) (v : A) {x : A} → answer_for p v ≡ Ok x → x ≡ v
  unfolding answer_for
  value_given [] v e = cc
  value_given (c ∷ p) v {x} e = go c.holds (value_given p v) e
    where
      go : (b : Bool) → (answer_for p v ≡ Ok x → x ≡ v) → cond b (Err c.refusal) (answer_for p v) ≡ Ok x → x ≡ v
      go true h d = cc
      go false h d = h d

  pub accepted_by : (p : List Check) (v : A) → lowest_of p ≡ 0 → answer_for p v ≡ Ok v
  unfolding answer_for lowest_of
  accepted_by [] v e = refl
  accepted_by (c ∷ p) v e = go c.holds (accepted_by p v) e
    where
      go : (b : Bool) → (lowest_of p ≡ 0 → answer_for p v ≡ Ok v) → cond b (number c.refusal) (lowest_of p) ≡ 0 → cond b (Err c.refusal) (answer_for p v) ≡ Ok v
      go true h d = let q = positive c.refusal in absurd (omega arith)
      go false h d = h d

  -- refused: the refusal has the number of the tests
  pub some_holds : (p : List Check) (v : A) {r : Refusal} → answer_for p v ≡ Err r → 1 ≤ lowest_of p
  some_holds p v {r} e = let d : number r ≡ lowest_of p = sym (ap number_of e) ∙ answer_number v p in let q = positive r in omega arith

-- ---- tests p, with others q behind them, for another value

module _ {A B : Type 0} where
  pub refused_before : (p q : List Check) (v : A) (w : B) {r : Refusal} → answer_for p v ≡ Err r → answer_for (p ++ q) w ≡ Err r
  unfolding answer_for
  refused_before [] q v w e = cc
  refused_before (c ∷ p) q v w {r} e = go c.holds (refused_before p q v w) e
    where
      go : (b : Bool) → (answer_for p v ≡ Err r → answer_for (p ++ q) w ≡ Err r) → cond b (Err c.refusal) (answer_for p v) ≡ Err r
          → cond b (Err c.refusal) (answer_for (p ++ q) w) ≡ Err r
      go true h d = cc
      go false h d = h d

  pub accepted_before : (p q : List Check) (v : A) (w : B) {x : A} → answer_for p v ≡ Ok x → answer_for (p ++ q) w ≡ answer_for q w
  unfolding answer_for
  accepted_before [] q v w e = refl
  accepted_before (c ∷ p) q v w {x} e = go c.holds (accepted_before p q v w) e
    where
      go : (b : Bool) → (answer_for p v ≡ Ok x → answer_for (p ++ q) w ≡ answer_for q w) → cond b (Err c.refusal) (answer_for p v) ≡ Ok x
          → cond b (Err c.refusal) (answer_for (p ++ q) w) ≡ answer_for q w
      go true h d = cc
      go false h d = h d

  -- one list of tests
  pub refused_as : (p : List Check) (v : A) (w : B) {r : Refusal} → answer_for p v ≡ Err r → answer_for p w ≡ Err r
  refused_as p v w {r} e = subst (λ l. answer_for l w ≡ Err r) (append-nil p) (refused_before p [] v w e)
