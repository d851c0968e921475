-- The tests of `label_blobs`, worked off one after another. Assumes nothing.
use Prim.Native.Nat.{ℕ, ◌+◌, ◌*◌, ◌/◌, ◌≤◌, ◌<◌}
use native.Mathlib.Decide.{dec_lt, ℕ_discrete}
use native.Mathlib.Omega.{arith}
use mathlib.Core.Path.{◌≡◌, sym, ap, ◌∙◌}
use mathlib.Core.Bool.{true, false, not, ◌||◌}
use mathlib.Core.Logic.{◌⊎◌, inl, inr}
use mathlib.Core.List.{List}
use lib.Dec.{ltb, eqb, lit<}
use lib.ListN.{length}
use borrow.Author.Tests.{lt-ltb, le-ltb, eq-eqb, ne_eqb}
use Rattle.frame.specs.Refusals.{Lowest, Tested, lowest_of, sides_wrong}
use Rattle.base.proofs.Tests.{either, or_first, or_second, or_neither}
use Rattle.frame.proofs.Lowest.{lowest_of_lem, lowest_first, lowest_next, lowest_none}
use Rattle.frame.proofs.Held.{sides_held}
use Rattle.blobs.specs.Patches.{record_length}
use Rattle.blobs.specs.Promises.{patch_tests}
use Rattle.blobs.specs.Ready.{Sized}

module _ (w h lm ls lk ll : ℕ) where
  abbrev tests : ℕ
  tests = lowest_of (patch_tests w h lm ls lk ll)

  pub wrong_sides : sides_wrong w h ≡ true → 2 ≡ tests
  unfolding patch_tests
  wrong_sides e = sym (lowest_first _ _ _ (or_first _ _ e))

  pub wrong_length : (lm ≡ w * h → ⊥) → 2 ≡ tests
  unfolding patch_tests
  wrong_length o = sym (lowest_first _ _ _ (or_second (sides_wrong w h) _ (ap not (ne_eqb lm (w * h) o))))

  module _ (e : sides_wrong w h ≡ false) (l : lm ≡ w * h) where
    passed : sides_wrong w h || not (eqb lm (w * h)) ≡ false
    passed = or_neither _ _ e (ap not (eq-eqb lm (w * h) l))

    pub short_seen : ls < w * h → 3 ≡ tests
    unfolding patch_tests
    short_seen s = sym (lowest_next _ _ _ passed ∙ lowest_first _ _ _ (or_first _ _ (lt-ltb ls (w * h) s)))

    pub short_waiting : lk < w * h → 3 ≡ tests
    unfolding patch_tests
    short_waiting s = sym (lowest_next _ _ _ passed ∙ lowest_first _ _ _ (or_second (ltb ls (w * h)) _ (or_first _ _ (lt-ltb lk (w * h) s))))

    pub short_patches_lem : ll < record_length * ((w * h + 1) / 2) → 3 ≡ tests
    unfolding patch_tests
    short_patches_lem s = sym (lowest_next _ _ _ passed ∙ lowest_first _ _ _ (or_second (ltb ls (w * h)) _ (or_second (ltb lk (w * h)) _ (lt-ltb ll (record_length * ((w * h + 1) / 2)) s))))

    pub long_enough : w * h ≤ ls → w * h ≤ lk → record_length * ((w * h + 1) / 2) ≤ ll → 0 ≡ tests
    unfolding patch_tests
    long_enough a b c =
        sym
        (lowest_next _ _ _ passed
        ∙ lowest_next _ _ _ (or_neither _ _ (le-ltb ls (w * h) a) (or_neither _ _ (le-ltb lk (w * h) b) (le-ltb ll (record_length * ((w * h + 1) / 2)) c)))
        ∙ lowest_none)

  -- what passes the tests
  pub passes : tests ≡ 0 → (sides_wrong w h ≡ false) × (lm ≡ w * h) × (w * h ≤ ls) × (w * h ≤ lk) × (record_length * ((w * h + 1) / 2) ≤ ll)
  passes z = by_sides (either (sides_wrong w h)) (ℕ_discrete lm (w * h))
    where
      by_lengths : sides_wrong w h ≡ false → lm ≡ w * h → Dec (ls < w * h) → Dec (lk < w * h) → Dec (ll < record_length * ((w * h + 1) / 2))
          → (sides_wrong w h ≡ false) × (lm ≡ w * h) × (w * h ≤ ls) × (w * h ≤ lk) × (record_length * ((w * h + 1) / 2) ≤ ll)
      by_lengths e l (yes a) b c = absurd (omega (arith, short_seen e l a))
      by_lengths e l (no a) (yes b) c = absurd (omega (arith, short_waiting e l b))
      by_lengths e l (no a) (no b) (yes c) = absurd (omega (arith, short_patches_lem e l c))
      by_lengths e l (no a) (no b) (no c) = (e, l, omega arith, omega arith, omega arith)

      by_sides : (sides_wrong w h ≡ true) ⊎ (sides_wrong w h ≡ false) → Dec (lm ≡ w * h)
          → (sides_wrong w h ≡ false) × (lm ≡ w * h) × (w * h ≤ ls) × (w * h ≤ lk) × (record_length * ((w * h + 1) / 2) ≤ ll)
      by_sides (inl e) d = absurd (omega (arith, wrong_sides e))
      by_sides (inr e) (no o) = absurd (omega (arith, wrong_length o))
      by_sides (inr e) (yes l) = by_lengths e l (dec_lt ls (w * h)) (dec_lt lk (w * h)) (dec_lt ll (record_length * ((w * h + 1) / 2)))

  -- the number is the lowest whose test holds
  pub patch_lowest : Lowest (λ n. Tested n (patch_tests w h lm ls lk ll)) tests
  unfolding patch_tests
  patch_lowest = lowest_of_lem 0 _ (lit< tt, (lit< tt, tt))

pub sized : (m : List ℕ) (w h : ℕ) → sides_wrong w h ≡ false → length m ≡ w * h → Sized m w h
sized m w h e l = let s = sides_held w h e in record { wide = s.w_least; narrow = s.w_most; high = s.h_least; low = s.h_most; size = l }
