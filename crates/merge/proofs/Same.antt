-- Records that are the same, byte for byte. Assumes nothing.
use Prim.Native.Nat.{ℕ, ◌<◌}
use mathlib.Core.Path.{◌≡◌, sym, ap, ◌∙◌}
use mathlib.Core.Bool.{Bool, true}
use mathlib.Core.List.{List}
use native.Mathlib.Omega.{arith}
use borrow.Author.Tests.{eqb-true, eq-eqb}
use lib.Dec.{eqb}
use lib.ListN.{length, get_or}
use lib.Seq.{ext_get_or}
use Rattle.std.specs.Bool.{Decides}
use Rattle.base.specs.Loops.{every}
use Rattle.base.proofs.Every.{every_one, one_every}
use Rattle.base.proofs.Tests.{same_test}
use Rattle.merge.specs.Merged.{same_record}

pub record_same : (r s : List ℕ) → r ≡ s → same_record r s ≡ true
unfolding same_record
record_same r s e = one_every _ 120 (λ k h. eq-eqb (get_or r k 0) (get_or s k 0) (ap (λ l. get_or l k 0) e))

pub same_record_lem : (r s : List ℕ) → length r ≡ 120 → length s ≡ 120 → same_record r s ≡ true → r ≡ s
unfolding same_record
same_record_lem r s h k e = ext_get_or 0 r s (h ∙ sym k) (λ i l. eqb-true (get_or r i 0) (get_or s i 0) (every_one _ 120 e i (omega arith)))

-- n bytes at two places are the same where they are so one by one
pub bytes_same : (n : ℕ) (r s x y : List ℕ) {t : Bool} → length r ≡ n → length s ≡ n → Decides t (r ≡ s)
    → ((k : ℕ) → k < n → get_or r k 0 ≡ get_or x k 0) → ((k : ℕ) → k < n → get_or s k 0 ≡ get_or y k 0)
    → t ≡ every n (λ k. eqb (get_or x k 0) (get_or y k 0))
bytes_same n r s x y {t} h l d f g = same_test t _
    (λ e. one_every _ n (λ k m. eq-eqb _ _ (sym (f k m) ∙ ap (λ z. get_or z k 0) (d.0 e) ∙ g k m)))
    (λ e. d.1 (ext_get_or 0 r s (h ∙ sym l) (λ i m. f i (omega arith) ∙ eqb-true _ _ (every_one _ n e i (omega arith)) ∙ sym (g i (omega arith)))))
