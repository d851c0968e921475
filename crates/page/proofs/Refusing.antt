-- The number of a page's refusal, test by test, from the lengths as the code divides them. Assumes nothing.
use borrow.Author.Tests.{lt-ltb, le-ltb}
use native.Mathlib.Omega.{arith}
use mathlib.Core.Path.{◌≡◌, sym, ap, ◌∙◌}
use mathlib.Core.Bool.{Bool, true, false, not, ◌||◌}
use mathlib.Core.List.{List, [], ◌∷◌}
use Prim.Native.Nat.{ℕ, ◌*◌, ◌/◌, ◌≤◌, ◌<◌}
use lib.Dec.{ltb}
use lib.Ieee.{Float}
use lib.ListN.{length}
use Rattle.base.proofs.Tests.{or_first, or_second, or_neither}
use Rattle.frame.specs.Refusals.{check, lowest_of}
use Rattle.frame.specs.declared.refusals.Refusal.TheVariants.{AreaShort, PageShort, Unprintable}
use Rattle.frame.proofs.Lowest.{lowest_first, lowest_next, lowest_none}
use Rattle.page.specs.Promises.{every_printable, page_tests}
use Rattle.page.specs.Steps.{Fitting}

module _ (c : List Float) (count : ℕ) (page : List ℕ) where
  abbrev short : Bool
  short = ltb (length c) (4 * count)

  abbrev narrow : Bool
  narrow = ltb (length page) (37 * count)

  abbrev bad : Bool
  bad = ltb 9999 count || not (every_printable c count)

  pub gives_3 : length c / 4 < count → 3 ≡ lowest_of (page_tests c count page)
  unfolding page_tests
  gives_3 h = sym (lowest_first AreaShort short (check PageShort narrow ∷ check Unprintable bad ∷ []) (lt-ltb (length c) (4 * count) (omega arith)))

  module _ (h : count ≤ length c / 4) where
    listed : lowest_of (page_tests c count page) ≡ lowest_of (check PageShort narrow ∷ check Unprintable bad ∷ [])
    unfolding page_tests
    listed = lowest_next AreaShort short (check PageShort narrow ∷ check Unprintable bad ∷ []) (le-ltb (length c) (4 * count) (omega arith))

    pub gives_12 : length page / 37 < count → 12 ≡ lowest_of (page_tests c count page)
    gives_12 k = sym (listed ∙ lowest_first PageShort narrow (check Unprintable bad ∷ []) (lt-ltb (length page) (37 * count) (omega arith)))

    module _ (k : count ≤ length page / 37) where
      held : lowest_of (page_tests c count page) ≡ lowest_of (check Unprintable bad ∷ [])
      held = listed ∙ lowest_next PageShort narrow (check Unprintable bad ∷ []) (le-ltb (length page) (37 * count) (omega arith))

      pub gives_13_many : 9999 < count → 13 ≡ lowest_of (page_tests c count page)
      gives_13_many m = sym (held ∙ lowest_first Unprintable bad [] (or_first (ltb 9999 count) (not (every_printable c count)) (lt-ltb 9999 count m)))

      pub gives_13 : every_printable c count ≡ false → 13 ≡ lowest_of (page_tests c count page)
      gives_13 e = sym (held ∙ lowest_first Unprintable bad [] (or_second (ltb 9999 count) (not (every_printable c count)) (ap not e)))

      pub gives_0 : count ≤ 9999 → every_printable c count ≡ true → 0 ≡ lowest_of (page_tests c count page)
      gives_0 m e =
          sym (held ∙ lowest_next Unprintable bad [] (or_neither (ltb 9999 count) (not (every_printable c count)) (le-ltb 9999 count m) (ap not e)) ∙ lowest_none)

      pub fitting : count ≤ 9999 → every_printable c count ≡ true → Fitting c count (length page)
      fitting m e = record { listed = omega arith; held = omega arith; few = m; printable = e }
