-- The nearest with its distance, with one patch more. Assumes nothing.
use Prim.Native.Nat.{ℕ}
use mathlib.Core.Path.{◌≡◌, refl}
use mathlib.Core.Bool.{Bool, true, false, cond}
use lib.Dec.{ltb}
use Rattle.std.specs.Prelude.{Option, Some, None}
use Rattle.std.specs.Option.{option_map}
use Rattle.windows.specs.Rectangles.{distance}
use Rattle.windows.specs.Windows.{nearest_met}
use Rattle.windows.specs.Steps.{near, nearer}
use Rattle.windows.specs.declared.Rectangle.{Rectangle}
use Rattle.windows.specs.declared.tally.Near.{Near}

module _ (t : ℕ → Rectangle) (r : Rectangle) where
  abbrev pub near_of : ℕ → Near
  near_of j = near j (distance r (t j))

  pub nearest_step : (n : ℕ) (p : Option ℕ) → nearer (option_map near_of p) (near_of n) ≡ option_map near_of (nearest_met t r n p)
  unfolding nearer nearest_met
  nearest_step n None = refl
  nearest_step n (Some i) = by_test (ltb (distance r (t n)) (distance r (t i)))
    where
      by_test : (b : Bool) → cond b (Some (near_of n)) (Some (near_of i)) ≡ option_map near_of (cond b (Some n) (Some i))
      by_test true = refl
      by_test false = refl
