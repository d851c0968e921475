-- The tests of `checkerboard`, worked off one after another. Assumes nothing.
use Prim.Native.Nat.{ℕ, ◌*◌, ◌≤◌, ◌<◌}
use native.Mathlib.Decide.{dec_lt}
use native.Mathlib.Omega.{arith}
use mathlib.Core.Path.{◌≡◌, sym, ◌∙◌}
use mathlib.Core.Bool.{true, false}
use mathlib.Core.Logic.{◌⊎◌, inl, inr}
use lib.Dec.{lit<}
use borrow.Author.Tests.{lt-ltb, le-ltb}
use Rattle.base.proofs.Tests.{either}
use Rattle.frame.specs.Refusals.{Lowest, Tested, lowest_of, sides_wrong}
use Rattle.frame.proofs.Lowest.{lowest_of_lem, lowest_first, lowest_next, lowest_none}
use Rattle.checkerboard.specs.Promises.{board_tests}

module _ (w h z : ℕ) where
  abbrev tests : ℕ
  tests = lowest_of (board_tests w h z)

  pub wrong_sides : sides_wrong w h ≡ true → 2 ≡ tests
  unfolding board_tests
  wrong_sides e = sym (lowest_first _ _ _ e)

  pub short_mask : sides_wrong w h ≡ false → z < w * h → 3 ≡ tests
  unfolding board_tests
  short_mask e l = sym (lowest_next _ _ _ e ∙ lowest_first _ _ _ (lt-ltb z (w * h) l))

  pub long_enough : sides_wrong w h ≡ false → w * h ≤ z → 0 ≡ tests
  unfolding board_tests
  long_enough e l = sym (lowest_next _ _ _ e ∙ lowest_next _ _ _ (le-ltb z (w * h) l) ∙ lowest_none)

  -- what passes the tests
  pub board_passes : tests ≡ 0 → (sides_wrong w h ≡ false) × (w * h ≤ z)
  board_passes n = go (either (sides_wrong w h)) (dec_lt z (w * h))
    where
      go : (sides_wrong w h ≡ true) ⊎ (sides_wrong w h ≡ false) → Dec (z < w * h) → (sides_wrong w h ≡ false) × (w * h ≤ z)
      go (inl e) d = absurd (omega (arith, wrong_sides e))
      go (inr e) (yes l) = absurd (omega (arith, short_mask e l))
      go (inr e) (no l) = (e, omega arith)

  -- the number is the lowest whose test holds
  pub board_lowest : Lowest (λ n. Tested n (board_tests w h z)) tests
  unfolding board_tests
  board_lowest = lowest_of_lem 0 _ (lit< tt, (lit< tt, tt))
