-- `candidates::bullseye::share` meets its contract. Assumes nothing.
use mathlib.Core.Path.{◌≡◌, refl, ◌∙◌}
use mathlib.Core.Bool.{Bool, true, false, ◌||◌}
use lib.Dec.{ltb, eqb}
use lib.Ieee.{binary64, lt, of_bits, of_int}
use Rattle.base.proofs.Pick.{pick_yes, pick_no}
use Rattle.float.specs.Floats.{◌⊘◌, ◌⊖◌, f64}
use Rattle.candidates.specs.Ring.{share_of}
use Rattle.candidates.specs.declared.Tally.{Tally}
use Rattle.candidates.proofs.bullseye.share.Goals as goal

abbrev bare : Tally → Bool
bare s = ltb s.made 9 || eqb s.darks 0 || eqb s.lights 0

abbrev flat : Tally → Bool
flat s = lt (s.light_sum ⊘ f64 s.lights ⊖ s.dark_sum ⊘ f64 s.darks) (f64 30)

nothing : of_bits binary64 0 ≡ f64 0
unfolding of_bits of_int
nothing = refl

thirty : of_bits binary64 4629137466983448576 ≡ f64 30
unfolding of_bits of_int
thirty = refl

of_bare : (s : Tally) → bare s ≡ true → of_bits binary64 0 ≡ share_of s
unfolding share_of
of_bare s e = nothing ∙ pick_yes (bare s) _ _ e

of_flat : (s : Tally) → bare s ≡ false → flat s ≡ true → of_bits binary64 0 ≡ share_of s
unfolding share_of
of_flat s e g = nothing ∙ pick_yes (flat s) _ (f64 s.hits ⊘ f64 s.made) g ∙ pick_no (bare s) _ _ e

of_share : (s : Tally) → bare s ≡ false → flat s ≡ false → f64 s.hits ⊘ f64 s.made ≡ share_of s
unfolding share_of
of_share s e g = pick_no (flat s) (f64 0) _ g ∙ pick_no (bare s) _ _ e

pub returns-then-t : goal.returns-then-t
returns-then-t c = of_bare _ c.if-t.true

pub returns-then-t-2 : goal.returns-then-t-2
returns-then-t-2 c = of_flat _ c.if-t.false (rw thirty at c.if-t-2.true)

pub returns : goal.returns
returns c = of_share _ c.if-t.false (rw thirty at c.if-t-2.false)
