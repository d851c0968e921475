-- An answer in the slices for counts and fit. Assumes nothing.
use Prim.Native.Nat.{ℕ, ◌≤◌}
use native.Mathlib.Omega.{arith}
use mathlib.Core.Path.{◌≡◌, sym, ap, ◌∙◌}
use mathlib.Core.Bool.{true, false, ◌&&◌}
use mathlib.Core.List.{List}
use lib.Dec.{leb}
use lib.Ieee.{Float}
use lib.ListN.{length, set}
use Rattle.fit_geometry.specs.declared.PictureFit.{PictureFit}
use Rattle.tablet.specs.Layouts.{list_numbers, place_numbers}
use Rattle.tablet.specs.Whole.{found_numbers, flat_numbers, Told}
use Rattle.tablet.proofs.Laws.{told_not, told_all, written_next}

-- the twelfth count behind the eleven
module _ (a : PictureFit) (beyond : ℕ) (counts counts' : List ℕ) (fit fit' : List Float) (n : ℕ) (t : Told a (found_numbers a) counts counts' fit fit' n) where
  pub flat_tested : (leb 1 n && leb n 6) ≡ true → Told a (flat_numbers a beyond) counts counts' fit fit' n
  flat_tested e =
      record {
        number = t.number;
        counts_are = t.counts_are ∙ sym (told_not n (found_numbers a) counts e) ∙ told_not n (flat_numbers a beyond) counts e;
        fit_is = t.fit_is;
      }

  pub flat_told : (leb 1 n && leb n 6) ≡ false → 12 ≤ length counts → Told a (flat_numbers a beyond) counts (set counts' 11 beyond) fit fit' n
  unfolding flat_numbers found_numbers list_numbers place_numbers
  flat_told e h =
      record {
        number = t.number;
        counts_are =
            ap (λ (l : List ℕ). set l 11 beyond) (t.counts_are ∙ sym (told_all n (found_numbers a) counts e))
            ∙ written_next (found_numbers a) counts beyond (omega arith)
            ∙ told_all n (flat_numbers a beyond) counts e;
        fit_is = t.fit_is;
      }
