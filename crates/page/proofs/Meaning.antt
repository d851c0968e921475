-- The theorems of specs/Meaning on amounts, lines and refusals. Assumes nothing.
use mathlib.Core.Path.{◌≡◌, refl, sym, ap, ◌∙◌, subst}
use mathlib.Core.Bool.{true, not, ◌&&◌, true≢false}
use Prim.Native.Nat.{ℕ, ◌+◌, ◌*◌, ◌/◌, ◌≤◌, ◌<◌}
use native.Mathlib.Nat.{div-mul-le_self, lt-div-mul-add, div-eq_of_lt-le, mul_assoc, mul_comm, add-mul, one-mul, zero-mul}
use native.Mathlib.Omega.{arith}
use borrow.Author.Tests.{leb-true, le-leb}
use lib.Dec.{leb}
use lib.IntN.{pos}
use lib.Ieee.{Float, nan, inf, fin, up, down, lt, of_int}
use lib.Ieee.Fits.{down_pos}
use Rattle.base.proofs.Joined.{joined_part}
use Rattle.base.proofs.Every.{every_one, one_every}
use Rattle.base.proofs.Tests.{and_left, and_right}
use Rattle.float.specs.Floats.{f64}
use Rattle.float.proofs.Halves.{double_pos}
use Rattle.frame.proofs.Lowest.{lowest_of_lem}
use Rattle.page.specs.Amounts.{units_of, finite, widest, printable}
use Rattle.page.specs.Text.{whole, field_of, line_length, line_of, row_at}
use Rattle.page.specs.Promises.{page_tests}
use Rattle.page.specs.Meaning.{AmountIs, MinusZeroIs, SpellsAmount, LineSpelled, LineLong, PageLong, LinesAre, EachPrintable, LowestGiven}
use Rattle.page.proofs.Printing.{each_of}
use Rattle.page.proofs.Spelling.{whole_spelled, parts_spelled}
use Rattle.page.proofs.Texts.{line_length_lem, page_length}

-- ---- amounts: with n the numerator and c the denominator of x
module _ (n c d : ℕ) (C : 0 < c) where
  abbrev rounded : ℕ
  rounded = (n * d * 2 + c) / (c * 2)

  twice : (q : ℕ) → q * (c * 2) ≡ 2 * q * c
  twice q = sym (mul_assoc q c 2) ∙ mul_comm (q * c) 2 ∙ sym (mul_assoc 2 q c)

  top : n * d * 2 ≡ 2 * d * n
  top = mul_comm (n * d) 2 ∙ ap (λ z. 2 * z) (mul_comm n d) ∙ sym (mul_assoc 2 d n)

  low : 2 * rounded * c ≤ 2 * d * n + c
  low =
      let a : rounded * (c * 2) ≤ n * d * 2 + c = div-mul-le_self (n * d * 2 + c) (c * 2) in
      omega (arith, a, twice rounded, top)

  high : 2 * d * n + c < 2 * (rounded + 1) * c
  high =
      let a : n * d * 2 + c < rounded * (c * 2) + c * 2 = lt-div-mul-add (double_pos c C) in
      let b : (rounded + 1) * (c * 2) ≡ rounded * (c * 2) + c * 2 = add-mul rounded 1 (c * 2) ∙ ap (λ z. rounded * (c * 2) + z) (one-mul (c * 2)) in
      omega (arith, a, b, twice (rounded + 1), top)

  only : (q : ℕ) → 2 * q * c ≤ 2 * d * n + c → 2 * d * n + c < 2 * (q + 1) * c → q ≡ rounded
  only q h k = sym (div-eq_of_lt-le (c * 2) (omega (arith, h, twice q, top)) (omega (arith, k, twice (q + 1), top)))

pub amount_is : AmountIs
unfolding finite units_of
amount_is d nan h q = absurd (true≢false (sym h))
amount_is d (inf s) h q = absurd (true≢false (sym h))
amount_is d (fin s m e) h q = (
  λ k. (
    subst (λ z. 2 * z * down e ≤ 2 * d * (m * up e) + down e) (sym k) (low (m * up e) (down e) d (down_pos e)),
    subst (λ z. 2 * d * (m * up e) + down e < 2 * (z + 1) * down e) (sym k) (high (m * up e) (down e) d (down_pos e)),
  ),
  λ k. only (m * up e) (down e) d (down_pos e) q k.0 k.1,
)

zero_units : (d : ℕ) → units_of d (fin true 0 (pos 0)) ≡ 0
unfolding units_of
zero_units d = ap (λ z. (z * 2 + 1) / 2) (zero-mul d)

pub minus_zero_is : MinusZeroIs
unfolding printable finite lt of_int
minus_zero_is d most = (ap (λ q. leb q most) (zero_units d) ∙ le-leb 0 most (omega arith), zero_units d)

-- ---- a printable number is spelled in its columns
printed : (d width places : ℕ) (x : Float) → places + 2 ≤ width → printable d (widest width) x ≡ true
    → SpellsAmount d width places x (field_of width places (units_of d x))
unfolding printable
printed d width places x h p =
    let a = finite x && not (lt x (f64 0)) in
    record {
      q = units_of d x;
      nearest = (amount_is d x (and_left (finite x) (not (lt x (f64 0))) (and_left a (leb (units_of d x) (widest width)) p)) (units_of d x)).0 refl;
      spelled = parts_spelled width places (units_of d x) h (leb-true (units_of d x) (widest width) (and_right a (leb (units_of d x) (widest width)) p));
    }

pub line_spelled : LineSpelled
unfolding line_of
line_spelled rank r h p =
    let e = each_of r p in
    record {
      rank_text = whole 4 rank;
      x_text = field_of 8 2 (units_of 100 r.x);
      y_text = field_of 8 2 (units_of 100 r.y);
      size_text = field_of 7 2 (units_of 100 r.size);
      score_text = field_of 5 3 (units_of 1000 r.score);
      text = refl;
      rank_spelled = whole_spelled 4 rank (omega arith) (omega arith);
      x_spelled = printed 100 8 2 r.x (omega arith) e.x;
      y_spelled = printed 100 8 2 r.y (omega arith) e.y;
      size_spelled = printed 100 7 2 r.size (omega arith) e.size;
      score_spelled = printed 1000 5 3 r.score (omega arith) e.score;
    }

-- ---- lines
pub line_long : LineLong
line_long = line_length_lem

pub page_long : PageLong
page_long = page_length

pub lines_are : LinesAre
lines_are c n i h = joined_part _ line_length (λ i. line_length_lem (i + 1) (row_at c i)) n i h

-- ---- refusals
pub each_printable : EachPrintable
each_printable c n = (every_one _ n, one_every _ n)

pub lowest_given : LowestGiven
unfolding page_tests
lowest_given c count page = lowest_of_lem 0 _ (omega arith, (omega arith, (omega arith, tt)))
