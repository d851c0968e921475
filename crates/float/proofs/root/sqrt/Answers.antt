-- `float::sqrt` meets its contract. Assumes nothing.
use Rattle.std.proofs.Common.{◌≡◌, ℕ, ◌-◌, ◌*◌, ◌/◌, ◌%◌, ◌^◌, ◌<◌, ◌≤◌, true, false, T, sym, ap, ◌∙◌, subst, arith}
use lib.Count.{count_leading_zeros}
use lib.Ieee.{Float, binary64, fits, to_bits, of_bits, div, units, lt}
use lib.Ieee.Positive.{above, positive}
use Rattle.float.specs.Root.{nearest_root, sqrt_of, NearestRoot}
use Rattle.float.proofs.Numbers.{above_number}
use Rattle.float.proofs.root.Cases.{over_zero, Moved, moved, shl_is, subnormal, normal, infinite, Rooted}
use Rattle.float.proofs.root.Cases.{inf_root, inf_bound, at_zero, zero_bound, below_zero, below_bound}
use Rattle.float.proofs.root.sqrt.Goals as goal

abbrev root : ℕ → ℕ → Float
root d g = units binary64 false (nearest_root (d * 2 ^ (g % 2) * 2 ^ 52)) (g / 2 - 1)

both : {d g : ℕ} {x r : Float} → Rooted d g x → r ≡ root d g → (r ≡ sqrt_of x) × (T (positive x) → NearestRoot x r)
both {x = x} R e = (e ∙ sym R.value, λ p. subst (NearestRoot x) (sym e) R.nearest)

-- an x above zero
module _ (x : Float) (F : fits binary64 x ≡ true) (P : lt (of_bits binary64 0) x ≡ true) where
  held : T (fits binary64 x)
  held = subst T (sym F) tt

  over : T (above x)
  over = over_zero x P

  -- a subnormal one, of which z are the leading zeros
  module _ (S : to_bits binary64 x < 2 ^ 52) where
    lead : Moved x held over
    lead = moved x held over S

    module _ (z : ℕ) (Z : z ≡ count_leading_zeros 64 (to_bits binary64 x)) where
      digits : to_bits binary64 x * 2 ^ (z - 11) % 2 ^ 64 ≡ to_bits binary64 x * 2 ^ (count_leading_zeros 64 (to_bits binary64 x) - 11)
      digits = ap (λ n. to_bits binary64 x * 2 ^ (n - 11) % 2 ^ 64) Z ∙ shl_is x held over S

      from : 2 ^ 52 ≤ to_bits binary64 x * 2 ^ (z - 11) % 2 ^ 64
      from = subst (λ d. 2 ^ 52 ≤ d) (sym digits) lead.from

      below : to_bits binary64 x * 2 ^ (z - 11) % 2 ^ 64 < 2 ^ 53
      below = subst (λ d. d < 2 ^ 53) (sym digits) lead.to

      rooted : Rooted (to_bits binary64 x * 2 ^ (z - 11) % 2 ^ 64) (1024 - (z - 11)) x
      rooted =
          let b = to_bits binary64 x in
          let g : ℕ → ℕ = λ n. 1024 - (n - 11) in
          let all : Rooted (b * 2 ^ (z - 11) % 2 ^ 64) (g (count_leading_zeros 64 b)) x =
          subst (λ d. Rooted d (g (count_leading_zeros 64 b)) x) (sym digits) (subnormal x held over S) in
          subst (λ n. Rooted (b * 2 ^ (z - 11) % 2 ^ 64) (g n) x) (sym Z) all

pub float_to_bits-b : goal.float_to_bits-b
float_to_bits-b c = above_number _ (over c.args.x c.well_formed.0.1 c.if-x.true)

pub overflow_sub-z : goal.overflow_sub-z
overflow_sub-z c =
    let l = lead c.args.x c.well_formed.0.1 c.if-x.true c.if-b-lt4503599627370496.true in
    omega (arith, l.zeros, l.few)

pub scaled_root-requires-clause-digits_from : goal.scaled_root-requires-clause-digits_from
scaled_root-requires-clause-digits_from c = from _ c.well_formed.0.1 c.if-x.true c.if-b-lt4503599627370496.true _ c.from-z.ensures

pub scaled_root-requires-clause-digits_below : goal.scaled_root-requires-clause-digits_below
scaled_root-requires-clause-digits_below c = below _ c.well_formed.0.1 c.if-x.true c.if-b-lt4503599627370496.true _ c.from-z.ensures

pub returns-then-b-lt4503599627370496 : goal.returns-then-b-lt4503599627370496
returns-then-b-lt4503599627370496 c =
    let r = both (rooted c.args.x c.well_formed.0.1 c.if-x.true c.if-b-lt4503599627370496.true _ c.from-z.ensures) c.scaled_root.ensures in
    record { value = r.0; nearest_root = r.1 }

pub returns-then-b-lt9218868437227405312 : goal.returns-then-b-lt9218868437227405312
returns-then-b-lt9218868437227405312 c =
    let x = c.args.x in
    let R = normal x (held x c.well_formed.0.1 c.if-x.true) (over x c.well_formed.0.1 c.if-x.true) c.if-b-lt4503599627370496.false c.if-b-lt9218868437227405312.true in
    let r = both R c.scaled_root-then-b-lt9218868437227405312.ensures in
    record { value = r.0; nearest_root = r.1 }

pub returns-else-b-lt9218868437227405312 : goal.returns-else-b-lt9218868437227405312
returns-else-b-lt9218868437227405312 c =
    let x = c.args.x in
    let e = infinite x (held x c.well_formed.0.1 c.if-x.true) (over x c.well_formed.0.1 c.if-x.true) c.if-b-lt9218868437227405312.false in
    record { value = inf_root _ e; nearest_root = inf_bound _ _ e }

pub returns-then-x-2 : goal.returns-then-x-2
returns-then-x-2 c = record { value = at_zero _ c.if-x-2.true; nearest_root = zero_bound _ _ c.if-x-2.true }

pub returns-else-x-2 : goal.returns-else-x-2
unfolding div of_bits
returns-else-x-2 c = record { value = below_zero _ c.if-x.false c.if-x-2.false; nearest_root = below_bound _ _ c.if-x.false }
