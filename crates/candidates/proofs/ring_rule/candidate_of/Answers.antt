-- `candidates::ring_rule::candidate_of` meets its contract. Assumes nothing.
use mathlib.Core.Path.{◌≡◌, refl, sym, ap, ◌∙◌}
use mathlib.Core.Bool.{Bool}
use lib.Ieee.{Float, of_bits, of_int, round, le}
use Rattle.float.specs.Floats.{d64}
use Rattle.candidates.specs.Ring.{enough}
use Rattle.candidates.proofs.Rules.{ring_passed, ring_low, ring_unshaped}
use Rattle.candidates.proofs.ring_rule.candidate_of.Goals as goal

-- the test at the threshold is the rule's
tested : (x s : Float) (b : Bool) → x ≡ d64 78 100 → le x s ≡ b → enough s ≡ b
unfolding enough
tested x s b t e = ap (λ z. le z s) (sym t) ∙ e

pub returns-then-not-shaped : goal.returns-then-not-shaped
returns-then-not-shaped c =
    let a = c.args in
    ring_unshaped _ _ a.planes.w a.planes.h a.blob (sym c.shaped.ensures ∙ c.if-not-shaped.true)

pub returns-then-score : goal.returns-then-score
unfolding of_bits of_int d64 round
returns-then-score c =
    let a = c.args in
    ring_passed _ _ a.planes.w a.planes.h a.blob _ _ _ (sym c.shaped.ensures ∙ c.if-not-shaped.false) c.verify_bullseye-score.ensures
    (tested _ _ _ refl c.if-score.true) c.center.ensures c.size.ensures

pub returns-else-score : goal.returns-else-score
unfolding of_bits of_int d64 round
returns-else-score c =
    let a = c.args in
    ring_low _ _ a.planes.w a.planes.h a.blob _ (sym c.shaped.ensures ∙ c.if-not-shaped.false) c.verify_bullseye-score.ensures (tested _ _ _ refl c.if-score.false)
