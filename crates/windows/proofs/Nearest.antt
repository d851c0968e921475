-- The nearest, with one patch more. Assumes nothing.
use Prim.Native.Nat.{ℕ, suc, ◌≤◌, ◌<◌}
use native.Mathlib.Omega.{arith}
use mathlib.Core.Path.{◌≡◌, ap}
use mathlib.Core.Logic.{⊎_elim}
use lib.Dec.{ltb}
use borrow.Author.Tests.{ltb-true, ltb-false}
use Rattle.base.proofs.Arith.{last_or}
use Rattle.base.proofs.Pick.{cond_elim}
use Rattle.windows.specs.Rectangles.{distance}
use Rattle.windows.specs.Windows.{LeastOf, nearest_met}
use Rattle.windows.specs.declared.Rectangle.{Rectangle}
use Rattle.std.specs.Prelude.{Option, Some, None}

pub nearest_more : (t : ℕ → Rectangle) (r : Rectangle) (n : ℕ) (p : Option ℕ)
    → LeastOf (λ j. distance r (t j)) n p → LeastOf (λ j. distance r (t j)) (suc n) (nearest_met t r n p)
unfolding nearest_met
nearest_more t r n None h = (
  omega arith,
  λ i l. let e : i ≡ n = omega arith in omega (arith, ap (λ x. distance r (t x)) e),
  λ i l. absurd (omega arith),
)
nearest_more t r n (Some j) h =
    cond_elim (LeastOf d (suc n)) (ltb (d n) (d j)) (Some n) (Some j)
    (λ e. let b : d n < d j = ltb-true _ _ e in (
      omega arith,
      λ i l. ⊎_elim (λ q. omega (arith, ap d q)) (λ q. omega (arith, h.1 i q)) (last_or i n l),
      λ i l. omega (arith, h.1 i l),
    ))
    (λ e. let b : d j ≤ d n = ltb-false _ _ e in (
      omega (arith, h.0),
      λ i l. ⊎_elim (λ q. omega (arith, ap d q)) (λ q. h.1 i q) (last_or i n l),
      h.2,
    ))
  where
    d : ℕ → ℕ
    d i = distance r (t i)
