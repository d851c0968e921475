-- `page::amount::units` meets its contract. Assumes nothing.
use mathlib.Core.Path.{sym, subst}
use native.Mathlib.Omega.{arith}
use lib.Dec.{T}
use lib.Ieee.{binary64, fits}
use Rattle.page.proofs.amount.Digits.{narrow_number, exponent_low, shifted, nothing_left}
use Rattle.page.proofs.amount.units.Goals as goal

pub float_to_bits-b : goal.float_to_bits-b
float_to_bits-b c = narrow_number _ c.requires.0

pub returns-then-e-lt1012 : goal.returns-then-e-lt1012
returns-then-e-lt1012 c =
    let held : T (fits binary64 c.args.x) = subst T (sym c.well_formed.0.1) tt in
    nothing_left _ _ (held) c.requires.0 c.requires.1 c.if-e-lt1012.true

pub overflow_sub-h : goal.overflow_sub-h
overflow_sub-h c =
    let held : T (fits binary64 c.args.x) = subst T (sym c.well_formed.0.1) tt in
    omega (arith, exponent_low _ _ (held) c.requires.0 c.requires.1)

pub returns : goal.returns
returns c =
    let held : T (fits binary64 c.args.x) = subst T (sym c.well_formed.0.1) tt in
    shifted _ _ (held) c.requires.0 c.requires.1 c.if-e-lt1012.false
