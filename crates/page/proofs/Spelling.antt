-- Numbers in columns can be read back. Assumes nothing.
use mathlib.Core.Path.{◌≡◌, refl, sym, ap, ◌∙◌, subst}
use mathlib.Core.List.{List, [], ◌∷◌, ◌++◌, append_assoc, append-nil}
use Prim.Native.Nat.{ℕ, zero, suc, ◌+◌, ◌-◌, ◌*◌, ◌/◌, ◌^◌, ◌≤◌, ◌<◌}
use native.Mathlib.Nat.{div-div-eq-div-mul, div-lt_iff_lt-mul, pow-suc, pow-succ', lt_of_lt_of_le, le_of_eq, one-le-pow}
use native.Mathlib.Numerals.{add-one}
use native.Mathlib.Omega.{arith}
use borrow.Author.Tests.{ne_eqb}
use lib.Dec.{eqb}
use lib.Pow.{pow-add}
use lib.ListN.{length, get_or, replicate, replicate-append-replicate, length-append}
use Rattle.base.proofs.Pick.{pick_no}
use Rattle.page.specs.Text.{blank, digit, leading, columns, whole, field_of}
use Rattle.page.specs.Meaning.{AllDigits, read_after, WholeSpelled, PartsSpelled}
use Rattle.page.proofs.Texts.{columns_length, whole_length, field_length}

-- ---- one digit more
digits_more : (l : List ℕ) (c : ℕ) → AllDigits l → 48 ≤ c → c ≤ 57 → AllDigits (l ++ (c ∷ []))
digits_more [] c a lo hi = (lo, hi, tt)
digits_more (x ∷ l) c a lo hi = (a.0, a.1, digits_more l c a.2 lo hi)

read_more : (v : ℕ) (l : List ℕ) (c : ℕ) → read_after v (l ++ (c ∷ [])) ≡ read_after v l * 10 + (c - 48)
read_more v [] c = refl
read_more v (x ∷ l) c = read_more (v * 10 + (x - 48)) l c

digit_low : (q : ℕ) → 48 ≤ digit q
digit_low q = omega arith

digit_high : (q : ℕ) → digit q ≤ 57
digit_high q = omega arith

digit_value : (q : ℕ) → q / 10 * 10 + (digit q - 48) ≡ q
digit_value q = omega arith

-- ---- the digits behind the point
columns_digits : (n q : ℕ) → AllDigits (columns digit n q)
unfolding columns
columns_digits zero q = tt
columns_digits (suc n) q = digits_more (columns digit n (q / 10)) (digit q) (columns_digits n (q / 10)) (digit_low q) (digit_high q)

columns_value : (n q : ℕ) → read_after (q / 10 ^ n) (columns digit n q) ≡ q
unfolding columns
columns_value zero q = omega arith
columns_value (suc n) q =
    read_more (q / 10 ^ suc n) (columns digit n (q / 10)) (digit q)
    ∙ ap (λ z. read_after z (columns digit n (q / 10)) * 10 + (digit q - 48)) (ap (λ z. q / z) (pow-succ' 10 n) ∙ sym (div-div-eq-div-mul q 10 (10 ^ n)))
    ∙ ap (λ z. z * 10 + (digit q - 48)) (columns_value n (q / 10))
    ∙ digit_value q

-- ---- blanks, and then the digits of q: none where q is 0
abbrev NoZero : List ℕ → Type 0
NoZero d = (x : ℕ) (l : List ℕ) → d ≡ x ∷ l → x ≡ 48 → ⊥

record Padded (q : ℕ) (t : List ℕ) : Type 0 where
  blanks : ℕ
  digits : List ℕ
  text : t ≡ replicate blanks blank ++ digits
  all_digits : AllDigits digits
  value : read_after 0 digits ≡ q

record Led (q : ℕ) (t : List ℕ) : Type 0 where
  padded : Padded q t
  first : NoZero padded.digits

-- one digit more, a zero too
padded_more : (q : ℕ) (t : List ℕ) → Padded (q / 10) t → Padded q (t ++ (digit q ∷ []))
padded_more q t r =
    record {
      blanks = r.blanks;
      digits = r.digits ++ (digit q ∷ []);
      text = ap (λ z. z ++ (digit q ∷ [])) r.text ∙ append_assoc (replicate r.blanks blank) r.digits (digit q ∷ []);
      all_digits = digits_more r.digits (digit q) r.all_digits (digit_low q) (digit_high q);
      value = read_more 0 r.digits (digit q) ∙ ap (λ z. z * 10 + (digit q - 48)) r.value ∙ digit_value q;
    }

all_blank : (n : ℕ) → columns leading n 0 ≡ replicate n blank
unfolding columns
all_blank zero = refl
all_blank (suc n) = ap (λ z. z ++ (blank ∷ [])) (all_blank n) ∙ replicate-append-replicate n 1 blank ∙ ap (λ z. replicate z blank) (add-one n)

led_none : (n q : ℕ) → q ≡ 0 → Led q (columns leading n q)
led_none n q e =
    record {
      padded = record {
        blanks = n;
        digits = [];
        text = ap (columns leading n) e ∙ all_blank n ∙ sym (append-nil (replicate n blank));
        all_digits = tt;
        value = sym e;
      };
      first = λ x l h. cc;
    }

led_more : (q : ℕ) (t : List ℕ) → 0 < q → Led (q / 10) t → Led q (t ++ (digit q ∷ []))
unfolding padded_more
led_more q t h r =
    record {
      padded = padded_more q t r.padded;
      first = go r.padded.digits r.first r.padded.value;
    }
  where
    go : (d : List ℕ) → NoZero d → read_after 0 d ≡ q / 10 → NoZero (d ++ (digit q ∷ []))
    go [] f v x l e k = let z : digit q ≡ x = cc in omega arith
    go (y ∷ d) f v x l e k = let z : y ≡ x = cc in f y d refl (z ∙ k)

led : (n q : ℕ) → q < 10 ^ n → Led q (columns leading n q)
unfolding columns
led zero q h = led_none zero q (omega arith)
led (suc n) q h = go q h (led n (q / 10) ((div-lt_iff_lt-mul (omega arith)).1 (lt_of_lt_of_le h (le_of_eq (pow-suc 10 n)))))
  where
    go : (q : ℕ) → q < 10 ^ suc n → Led (q / 10) (columns leading n (q / 10)) → Led q (columns leading n (q / 10) ++ (leading q ∷ []))
    go zero h r = led_none (suc n) 0 refl
    go (suc p) h r =
        subst (λ z. Led (suc p) (columns leading n (suc p / 10) ++ (z ∷ [])))
        (pick_no (eqb (suc p) 0) blank (digit (suc p)) (ne_eqb (suc p) 0 (λ e. omega arith)))
        (led_more (suc p) (columns leading n (suc p / 10)) (omega arith) r)

-- ---- whole numbers
pub whole_spelled : WholeSpelled
unfolding whole padded_more
whole_spelled n q l h =
    let r =
    led (n - 1) (q / 10)
    ((div-lt_iff_lt-mul (omega arith)).1 (lt_of_lt_of_le h (le_of_eq (ap (λ k. 10 ^ k) (sym (last n l)) ∙ pow-suc 10 (n - 1))))) in
    let p = padded_more q (columns leading (n - 1) (q / 10)) r.padded in
    record {
      blanks = p.blanks;
      digits = p.digits;
      text = p.text;
      long = unfold whole in whole_length n q l;
      all_digits = p.all_digits;
      some = omega (arith, length-append r.padded.digits (digit q ∷ []));
      no_zero = go r.padded.digits r.first;
      value = p.value;
    }
  where
    last : (n : ℕ) → 1 ≤ n → suc (n - 1) ≡ n
    last n h = omega arith

    go : (d : List ℕ) → NoZero d → 2 ≤ length (d ++ (digit q ∷ [])) → get_or (d ++ (digit q ∷ [])) 0 0 ≡ 48 → ⊥
    go [] f h e = omega arith
    go (x ∷ d) f h e = f x d refl e

-- ---- parts
pub parts_spelled : PartsSpelled
unfolding field_of
parts_spelled width places q l h =
    let n = width - (places + 1) in
    record {
      front = whole n (q / 10 ^ places);
      back = columns digit places q;
      v = q / 10 ^ places;
      text = refl;
      long = unfold field_of in field_length width places q l;
      before = whole_spelled n (q / 10 ^ places) (omega arith) fits;
      back_long = columns_length digit places q;
      back_digits = columns_digits places q;
      value = columns_value places q;
    }
  where
    ten_pos : (k : ℕ) → 0 < 10 ^ k
    ten_pos k = one-le-pow k 10 (omega arith)

    below : (p q : ℕ) → 0 < p → q ≤ p - 1 → q < p
    below p q h k = omega arith

    rest : (width places : ℕ) → places + 2 ≤ width → width - 1 ≡ width - (places + 1) + places
    rest width places h = omega arith

    fits : q / 10 ^ places < 10 ^ (width - (places + 1))
    fits =
        (div-lt_iff_lt-mul (ten_pos places)).1
        (lt_of_lt_of_le (below (10 ^ (width - 1)) q (ten_pos (width - 1)) h)
        (le_of_eq (ap (λ k. 10 ^ k) (rest width places l) ∙ pow-add 10 (width - (places + 1)) places)))
