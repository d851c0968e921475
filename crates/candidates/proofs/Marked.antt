-- The marked examples M9 and M10, over what the probes found. Assumes nothing.
use mathlib.Core.Path.{◌≡◌, refl, ap, ◌∙◌}
use mathlib.Core.Bool.{Bool, true, false, cond, ◌||◌}
use lib.Dec.{ltb, eqb}
use lib.Ieee.{Float, of_int, div, le, lt, eq}
use Rattle.float.specs.Floats.{◌⊖◌, ◌⊘◌, f64, d64}
use Rattle.candidates.specs.Ring.{enough, share_of}
use Rattle.candidates.specs.declared.Tally.{Tally}

low : (s : Float) → s ≡ f64 0 → enough s ≡ false
unfolding enough d64 of_int le lt eq
low s e = ap enough e

-- whatever the brightness, a share that is too low does not pass
too_few : (s : Tally) → enough (f64 s.hits ⊘ f64 s.made) ≡ false → enough (share_of s) ≡ false
unfolding share_of
too_few s e =
    go (ltb s.made 9 || eqb s.darks 0 || eqb s.lights 0) (lt (s.light_sum ⊘ f64 s.lights ⊖ s.dark_sum ⊘ f64 s.darks) (f64 30))
  where
    go : (a b : Bool) → enough (cond a (f64 0) (cond b (f64 0) (f64 s.hits ⊘ f64 s.made))) ≡ false
    go true b = low (f64 0) refl
    go false true = low (f64 0) refl
    go false false = e

thirteen : enough (f64 13 ⊘ f64 17) ≡ false
unfolding enough d64 of_int div le lt eq
thirteen = refl

seven : enough (f64 7 ⊘ f64 9) ≡ false
unfolding enough d64 of_int div le lt eq
seven = refl

fourteen : enough (f64 14 ⊘ f64 17) ≡ true
unfolding enough d64 of_int div le lt eq
fourteen = refl

-- [15.1] M9 14 of 17 probes pass, 13 do not. M10 7 of 9 do not.
pub thirteen_fail : (s : Tally) → s.hits ≡ 13 → s.made ≡ 17 → enough (share_of s) ≡ false
thirteen_fail s h m = too_few s (ap (λ z. enough (f64 z ⊘ f64 s.made)) h ∙ ap (λ z. enough (f64 13 ⊘ f64 z)) m ∙ thirteen)

pub seven_fail : (s : Tally) → s.hits ≡ 7 → s.made ≡ 9 → enough (share_of s) ≡ false
seven_fail s h m = too_few s (ap (λ z. enough (f64 z ⊘ f64 s.made)) h ∙ ap (λ z. enough (f64 7 ⊘ f64 z)) m ∙ seven)

-- 14 of 17 pass where there are dark and light probes 30 or more apart
pub fourteen_pass : (s : Tally) → s.hits ≡ 14 → s.made ≡ 17 → eqb s.darks 0 ≡ false → eqb s.lights 0 ≡ false
    → lt (s.light_sum ⊘ f64 s.lights ⊖ s.dark_sum ⊘ f64 s.darks) (f64 30) ≡ false → enough (share_of s) ≡ true
unfolding share_of
fourteen_pass s h m d l b =
    ap (λ z. enough (cond z (f64 0) (cond (lt (s.light_sum ⊘ f64 s.lights ⊖ s.dark_sum ⊘ f64 s.darks) (f64 30)) (f64 0) (f64 s.hits ⊘ f64 s.made)))) tests
    ∙ ap (λ z. enough (cond z (f64 0) (f64 s.hits ⊘ f64 s.made))) b
    ∙ ap (λ z. enough (f64 z ⊘ f64 s.made)) h
    ∙ ap (λ z. enough (f64 14 ⊘ f64 z)) m
    ∙ fourteen
  where
    tests : (ltb s.made 9 || eqb s.darks 0 || eqb s.lights 0) ≡ false
    tests = ap (λ z. ltb z 9 || eqb s.darks 0 || eqb s.lights 0) m ∙ ap (λ z. z || eqb s.lights 0) d ∙ l
