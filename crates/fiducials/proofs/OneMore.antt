-- The best of the candidates, with one candidate more. Assumes nothing.
use mathlib.Core.Path.{◌≡◌, refl, sym, subst}
use mathlib.Core.Bool.{Bool, true, false, not, cond}
use mathlib.Core.Logic.{⊎_elim}
use Prim.Native.Nat.{ℕ, suc, ◌<◌}
use native.Mathlib.Omega.{arith}
use lib.Dec.{T, T_not, not_T}
use Rattle.frame.specs.declared.Point.{Point}
use Rattle.base.proofs.Arith.{last_or}
use Rattle.fiducials.specs.declared.pick.Corner.{Corner}
use Rattle.fiducials.specs.Corners.{further, pick_step}
use Rattle.fiducials.proofs.Picks.{Number, Best, further_trans, further_step, further_irrefl}

module _ (c : Corner) (p : ℕ → Point) (N : ℕ) (number : (i : ℕ) → i < N → Number c (p i)) where
  pub one_more : (n b : ℕ) → n < N → Best c p n b → Best c p (suc n) (pick_step c p n b)
  one_more n b l h = go (further c (p n) (p b)) refl
    where
      go : (t : Bool) → further c (p n) (p b) ≡ t → Best c p (suc n) (cond t n b)
      go true e =
          let w : T (further c (p n) (p b)) = subst T (sym e) tt in
          record {
            none_further = λ i k. ⊎_elim
                (λ v. subst (λ z. T (not (further c (p z) (p n)))) (sym v) (further_irrefl c (p n)))
                (λ v. not_T (further c (p i) (p n)) (λ x. T_not (further c (p i) (p b)) (h.none_further i v) (further_trans c (p i) (p n) (p b) x w)))
                (last_or i n k);
            first = λ i k. further_step c (p n) (p b) (p i) (number i (omega arith)) w (h.none_further i k);
          }
      go false e =
          let w : T (not (further c (p n) (p b))) = subst (λ z. T (not z)) (sym e) tt in
          record {
            none_further = λ i k. ⊎_elim (λ v. subst (λ z. T (not (further c (p z) (p b)))) (sym v) w) (λ v. h.none_further i v) (last_or i n k);
            first = h.first;
          }
