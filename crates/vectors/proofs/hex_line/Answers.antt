-- A turn moves the last of the digits that are still to write to the front of the line.
use Rattle.std.proofs.Common.{◌≡◌, ℕ, zero, suc, ◌-◌, ◌/◌, ◌%◌, ◌<◌, ◌≤◌, List, [], ◌∷◌, ◌++◌, length, drop, refl, sym, ap, subst, ◌∙◌, arith}
use Rattle.std.proofs.Math.ListN.{set, length-set}
use native.Mathlib.Nat.{le_of_suc-le-suc, not-suc-le-zero}
use native.Mathlib.Numerals.{sub-one}
use lib.Seq.{append_snoc}
use Rattle.vectors.specs.Words.{hex_digit_ascii, last_digits, hex_line}
use Rattle.vectors.proofs.hex_line.Goals as goal

-- after a store at j, the list from j on begins with what was stored
drop-set : (t : List ℕ) (j g : ℕ) → j < length t → drop j (set t j g) ≡ g ∷ drop (suc j) t
drop-set [] j g h = absurd (not-suc-le-zero h)
drop-set (x ∷ xs) zero g h = refl
drop-set (x ∷ xs) (suc j) g h = drop-set xs j g (le_of_suc-le-suc h)

digits_step : (i rest g : ℕ) (line : List ℕ) → 0 < i → i ≤ length line → g ≡ hex_digit_ascii (rest % 16)
    → last_digits 16 (i - 1) (rest / 16) ++ drop (i - 1) (set line (i - 1) g) ≡ last_digits 16 i rest ++ drop i line
digits_step zero rest g line some room e = absurd (not-suc-le-zero some)
digits_step (suc j) rest g line some room e =
    let todo = last_digits 16 j (rest / 16) in
    ap (λ (m : ℕ). last_digits 16 m (rest / 16) ++ drop m (set line m g)) (sub-one (suc j))
    ∙ ap (λ (l : List ℕ). todo ++ l) (drop-set line j g room)
    ∙ ap (λ (x : ℕ). todo ++ x ∷ drop (suc j) line) e
    ∙ sym (append_snoc todo (hex_digit_ascii (rest % 16)) (drop (suc j) line))

pub loop-i-init : goal.loop-i-init
unfolding hex_line
loop-i-init c = record { long = refl; same = refl }

pub loop-i-preserved : goal.loop-i-preserved
loop-i-preserved c =
    let l = c.loop-i in
    record {
      long = simp length-set l.invariant.long;
      same = digits_step l.i l.rest c.hex_digit.result l.line c.loop-i-test.true (omega arith) c.hex_digit.ensures ∙ l.invariant.same;
    }

pub returns : goal.returns
returns c =
    let l = c.loop-i in
    let e : l.i ≡ 0 = omega arith in
    subst (λ (i : ℕ). last_digits 16 i l.rest ++ drop i l.line ≡ hex_line c.args.w) e l.invariant.same
