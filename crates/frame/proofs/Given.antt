-- Answers from the tests. Assumes nothing.
use mathlib.Core.Path.{◌≡◌, refl, sym, ap, ◌∙◌}
use mathlib.Core.Bool.{Bool, true, false, cond}
use mathlib.Core.List.{List, [], ◌∷◌}
use Prim.Native.Nat.{ℕ, ◌≤◌}
use native.Mathlib.Omega.{arith}
use lib.Dec.{eqb}
use Rattle.std.specs.Prelude.{Result, Ok, Err, ⊤}
use Rattle.frame.specs.Refusals.{number, number_of, Check, check, lowest_of, answer_for}
use Rattle.frame.specs.declared.refusals.Refusal.{Refusal}
use Rattle.frame.specs.declared.refusals.Refusal.TheVariants.{FrameOutside, CaptureWrong, AreaShort, CanonicalWrong, NoLayout, CaptureSmall, FewCandidates, SharedCandidate, Crooked}
use Rattle.frame.specs.declared.refusals.Refusal.TheVariants.{NoHomography, Singular, PageShort, Unprintable, Malformed, KeysFall, Unscored, RectangleWrong, BooksDiffer}

module _ {A : Type 0} (v : A) where
  -- the first test that holds gives its refusal, one that fails leaves the rest, and with none left the value is given
  pub answer_first : (r : Refusal) (t : Bool) (l : List Check) → t ≡ true → Err r ≡ answer_for (check r t ∷ l) v
  unfolding answer_for
  answer_first r t l e = rw e

  pub answer_next : {x : Result A Refusal} (r : Refusal) (t : Bool) (l : List Check) → t ≡ false → x ≡ answer_for l v → x ≡ answer_for (check r t ∷ l) v
  unfolding answer_for
  answer_next r t l e h = rw (e, h)

  pub answer_none : Ok v ≡ answer_for [] v
  unfolding answer_for
  answer_none = refl

  -- its number is that of the tests
  pub answer_number : (l : List Check) → number_of (answer_for l v) ≡ lowest_of l
  unfolding answer_for lowest_of
  answer_number [] = refl
  answer_number (c ∷ l) = go c.holds (answer_number l)
    where
      go : (b : Bool) → number_of (answer_for l v) ≡ lowest_of l → number_of (cond b (Err c.refusal) (answer_for l v)) ≡ cond b (number c.refusal) (lowest_of l)
      go true h = refl
      go false h = h

-- ---- a refusal, and an answer without a value, is told by its number

pub positive : (r : Refusal) → 1 ≤ number r
positive FrameOutside = omega arith
positive CaptureWrong = omega arith
positive AreaShort = omega arith
positive CanonicalWrong = omega arith
positive NoLayout = omega arith
positive CaptureSmall = omega arith
positive FewCandidates = omega arith
positive SharedCandidate = omega arith
positive Crooked = omega arith
positive NoHomography = omega arith
positive Singular = omega arith
positive PageShort = omega arith
positive Unprintable = omega arith
positive Malformed = omega arith
positive KeysFall = omega arith
positive Unscored = omega arith
positive RectangleWrong = omega arith
positive BooksDiffer = omega arith

abbrev of_number : ℕ → Refusal
of_number n =
    cond (eqb n 1) FrameOutside (
    cond (eqb n 2) CaptureWrong (
    cond (eqb n 3) AreaShort (
    cond (eqb n 4) CanonicalWrong (
    cond (eqb n 5) NoLayout (
    cond (eqb n 6) CaptureSmall (
    cond (eqb n 7) FewCandidates (
    cond (eqb n 8) SharedCandidate (
    cond (eqb n 9) Crooked (
    cond (eqb n 10) NoHomography (
    cond (eqb n 11) Singular (
    cond (eqb n 12) PageShort (
    cond (eqb n 13) Unprintable (
    cond (eqb n 14) Malformed (
    cond (eqb n 15) KeysFall (
    cond (eqb n 16) Unscored (
    cond (eqb n 17) RectangleWrong BooksDiffer
    ))))))))))))))))

of_number_number : (r : Refusal) → of_number (number r) ≡ r
of_number_number FrameOutside = refl
of_number_number CaptureWrong = refl
of_number_number AreaShort = refl
of_number_number CanonicalWrong = refl
of_number_number NoLayout = refl
of_number_number CaptureSmall = refl
of_number_number FewCandidates = refl
of_number_number SharedCandidate = refl
of_number_number Crooked = refl
of_number_number NoHomography = refl
of_number_number Singular = refl
of_number_number PageShort = refl
of_number_number Unprintable = refl
of_number_number Malformed = refl
of_number_number KeysFall = refl
of_number_number Unscored = refl
of_number_number RectangleWrong = refl
of_number_number BooksDiffer = refl

pub number_injective : (r s : Refusal) → number r ≡ number s → r ≡ s
number_injective r s e = sym (of_number_number r) ∙ ap of_number e ∙ of_number_number s

-- a refusal whose number the tests give is the answer, whatever value went with acceptance
pub number_given : {A : Type 0} (v : A) (l : List Check) (r : Refusal) → number r ≡ lowest_of l → Err r ≡ answer_for l v
number_given {A} v l r e = go (answer_for l v) (e ∙ sym (answer_number v l))
  where
    go : (a : Result A Refusal) → number r ≡ number_of a → Err r ≡ a
    go (Ok w) h = let p = positive r in absurd (omega arith)
    go (Err s) h = ap Err (number_injective r s h)

pub same_refusal : {a b : Result ⊤ Refusal} → number_of a ≡ number_of b → a ≡ b
same_refusal {a} {b} e = go a b e
  where
    go : (a b : Result ⊤ Refusal) → number_of a ≡ number_of b → a ≡ b
    go (Ok v) (Ok w) e = refl
    go (Ok v) (Err s) e = let p = positive s in absurd (omega arith)
    go (Err r) (Ok w) e = let p = positive r in absurd (omega arith)
    go (Err r) (Err s) e = ap Err (number_injective r s e)

-- an answer is accepted where its number is 0
pub accepted_zero : {A : Type 0} {a : Result A Refusal} {v : A} → a ≡ Ok v → number_of a ≡ 0
accepted_zero e = ap number_of e
