-- `mask::internal::first_row` meets its contract. Assumes nothing.
use lib.Ieee.{nan, of_bits, of_int}
use lib.ListN.{replicate, drop}
use lib.Seq.{length-take-le}
use mathlib.Core.List.{◌++◌, ◌∷◌}
use mathlib.Core.Path.{◌≡◌, refl, sym, ap, ◌∙◌}
use Prim.Native.Nat.{ℕ, zero, suc}
use Rattle.base.specs.Loops.{table}
use Rattle.base.proofs.Table.{filled_front}
use Rattle.float.specs.Floats.{f64}
use Rattle.mask.proofs.internal.first_row.Goals as goal

-- a table of one value
constant : {A : Type 0} (v : A) (n : ℕ) → replicate n v ≡ table (λ k. v) n
unfolding table
constant v zero = refl
constant v (suc n) = ap (λ l. v ∷ l) (constant v n)

pub returns : goal.returns
unfolding of_bits of_int
returns c =
    let a = c.args in
    let l = a.integral.now in
    ap (λ x. x ++ drop a.n l)
    (c.fill.ensures.after (λ y h. h) ∙ ap (λ n. replicate n (f64 0)) (length-take-le a.n l c.requires) ∙ constant (f64 0) a.n)
    ∙ sym (filled_front (λ k. f64 0) a.n nan l c.requires)
