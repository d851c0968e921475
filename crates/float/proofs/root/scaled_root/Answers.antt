-- `float::scaled_root` meets its contract. Assumes nothing.
use Rattle.std.proofs.Common.{◌≡◌, ℕ, ◌+◌, ◌-◌, ◌*◌, ◌/◌, ◌%◌, ◌^◌, ◌<◌, not, T, sym, ap, ◌∙◌, subst}
use lib.Ieee.{binary64, nan_bits, of_bits}
use Rattle.float.specs.Root.{nearest_root}
use Rattle.float.proofs.root.Scaled.{shl_is, shl_lt54, is, no_nan, pattern_lt}
use Rattle.float.proofs.root.scaled_root.Goals as goal

pub root_by_digits-q-requires : goal.root_by_digits-q-requires
root_by_digits-q-requires c =
    let h = c.requires in
    shl_lt54 _ _ h.digits_from h.digits_below h.exponent_from h.exponent_below

found : (c : goal.After-root_by_digits-q) → let a = c.args in
    c.root_by_digits-q.result ≡ nearest_root (a.d * 2 ^ (a.g % 2) * 2 ^ 52)
found c =
    let h = c.requires in
    c.root_by_digits-q.ensures
    ∙ ap (λ (z : ℕ). nearest_root (z * 2 ^ 52)) (shl_is c.args.d c.args.g h.digits_from h.digits_below h.exponent_from h.exponent_below)

pub overflow_add-result : goal.overflow_add-result
overflow_add-result c =
    let h = c.requires in
    let fits = pattern_lt c.args.d c.args.g h.digits_from h.digits_below h.exponent_from h.exponent_below in
    record { fits = subst (λ (z : ℕ). (c.args.g / 2 - 1) * 2 ^ 52 + z < 2 ^ 64) (sym (found c)) fits }

pub float_from_bits-result : goal.float_from_bits-result
float_from_bits-result c =
    let h = c.requires in
    let number = no_nan c.args.d c.args.g h.digits_from h.digits_below h.exponent_from h.exponent_below in
    subst (λ (z : ℕ). T (not (nan_bits binary64 ((c.args.g / 2 - 1) * 2 ^ 52 + z)))) (sym (found c)) number

pub returns : goal.returns
returns c =
    let h = c.requires in
    ap (λ (z : ℕ). of_bits binary64 ((c.args.g / 2 - 1) * 2 ^ 52 + z)) (found c)
    ∙ is c.args.d c.args.g h.digits_from h.digits_below h.exponent_from h.exponent_below
