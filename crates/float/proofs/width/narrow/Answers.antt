-- `float::narrow` meets its contract, range by range of the pattern. Assumes nothing.
use Rattle.std.proofs.Common.{◌^◌, ◌+◌, ◌*◌, ◌/◌, ◌∙◌, not, T, sym, subst, lt_of_lt_of_le, arith, lit≤}
use lib.Ieee.{binary64, fits, is_nan, of_bits, to_bits}
use lib.Ieee.Bits.{to_bits-lt}
use Rattle.float.proofs.width.Ranges.{Done, narrowed_nan, in_normal, in_overflow, in_coded, in_zero}
use Rattle.float.proofs.width.narrow.Goals as goal
use Rattle.float.proofs.width.narrow.Goals.{then-mag-ge-PAST, else-mag-ge-PAST+then-mag-ge-NORMAL}
use Rattle.float.proofs.width.narrow.Goals.{else-mag-ge-PAST+else-mag-ge-NORMAL+then-mag-ge-SUBNORMAL}
use Rattle.float.proofs.width.narrow.Goals.{else-mag-ge-PAST+else-mag-ge-NORMAL+else-mag-ge-SUBNORMAL}

pub returns-then-is_nan : goal.returns-then-is_nan
unfolding of_bits
returns-then-is_nan c = narrowed_nan _ (sym c.is_nan.ensures.value ∙ c.if-is_nan.true)

pub overflow_mul-sign : goal.overflow_mul-sign
overflow_mul-sign c =
    let held : T (fits binary64 c.args.x) = subst T (sym c.well_formed.0.1) tt in
    omega (arith, to_bits-lt binary64 c.args.x held)

-- the pattern with its sign
done : (c : goal.After-row_known-1) → Done c.args.x (to_bits binary64 c.args.x / 2 ^ 63 * 2 ^ 31 + c.if-mag-ge-PAST.p)
done c =
    let held : T (fits binary64 c.args.x) = subst T (sym c.well_formed.0.1) tt in
    let number : T (not (is_nan c.args.x)) = c.if-is_nan.ensures.not_nan in
    elim c.if-mag-ge-PAST.branch [
      | then-mag-ge-PAST w ↦ rw w.p-is (in_overflow _ held number w.if-mag-ge-PAST.true)
      | else-mag-ge-PAST+then-mag-ge-NORMAL w ↦ rw w.p-is (in_normal _ held number w.if-mag-ge-NORMAL.true w.if-mag-ge-PAST.false)
      | else-mag-ge-PAST+else-mag-ge-NORMAL+then-mag-ge-SUBNORMAL w ↦ rw w.p-is (in_coded _ held number w.if-mag-ge-SUBNORMAL.true w.if-mag-ge-NORMAL.false)
      | else-mag-ge-PAST+else-mag-ge-NORMAL+else-mag-ge-SUBNORMAL w ↦ rw w.p-is (in_zero _ held number w.if-mag-ge-SUBNORMAL.false)
    ]

pub overflow_add-result : goal.overflow_add-result
overflow_add-result c = record { fits = lt_of_lt_of_le (done c).2 (lit≤ tt) }

pub overflow_cast-result : goal.overflow_cast-result
overflow_cast-result c = record { fits = (done c).2 }

pub float_from_bits-result : goal.float_from_bits-result
float_from_bits-result c = (done c).0

pub returns : goal.returns
returns c = (done c).1
