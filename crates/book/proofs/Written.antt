-- Numbers written into bytes, one part after another. Assumes nothing.
use mathlib.Core.Path.{◌≡◌, sym, ap, ◌∙◌}
use mathlib.Core.List.{List, [], ◌++◌, append-nil}
use Prim.Native.Nat.{ℕ, ◌+◌, ◌-◌, ◌*◌, ◌≤◌, ◌<◌, suc}
use native.Mathlib.Nat.{mul-suc, mul-le-mul_left}
use native.Mathlib.Omega.{arith}
use lib.ListN.{length, get_or, drop, length-append}
use lib.Seq.{drop_at}
use borrow.Rule.Slice.PartMut.{put_mid}
use Rattle.base.specs.Bytes.{le_bytes}
use Rattle.base.specs.Loops.{joined}
use Rattle.base.proofs.Bytes.{length_le_bytes}
use Rattle.base.proofs.Joined.{length_joined, over_joined, over_joined_end}
use Rattle.base.proofs.Over.{over}
use Rattle.book.specs.Layout.{header, number_bytes, pattern_bytes, record_bytes, book_bytes, book_length}
use Rattle.book.specs.declared.FitRecord.{FitRecord}

-- ---- numbers, each in `width` bytes

pub number_length : (width : ℕ) (l : List ℕ) (i : ℕ) → length (number_bytes width l i) ≡ width
number_length width l i = length_le_bytes width (get_or l i 0)

-- number i has its room in them
pub number_room : (width i n : ℕ) → i < n → width * i + width ≤ width * n
number_room width i n h = let k : suc i ≤ n = omega arith in omega (arith, mul-suc width i, mul-le-mul_left width k)

-- ---- lengths
pub four_long : (a b c d : ℕ) → length (le_bytes 4 a ++ le_bytes 4 b ++ le_bytes 4 c ++ le_bytes 4 d) ≡ 16
four_long a b c d =
    length-append (le_bytes 4 a ++ le_bytes 4 b ++ le_bytes 4 c) (le_bytes 4 d)
    ∙ omega (
      arith,
      length-append (le_bytes 4 a ++ le_bytes 4 b) (le_bytes 4 c),
      length-append (le_bytes 4 a) (le_bytes 4 b),
      length_le_bytes 4 a,
      length_le_bytes 4 b,
      length_le_bytes 4 c,
      length_le_bytes 4 d,
    )

pub header_length : (n : ℕ) → length (header n) ≡ 16
unfolding header
header_length n = four_long n 16 120 (book_length n)

pub pattern_length : (l : List ℕ) (i : ℕ) → length (pattern_bytes l i) ≡ 8
unfolding pattern_bytes
pattern_length l i = length_le_bytes 8 (get_or l i 0)

pub record_length_lem : (r : FitRecord) → length (record_bytes r) ≡ 120
unfolding record_bytes
record_length_lem r =
    length-append (le_bytes 4 r.panel ++ le_bytes 4 r.camera ++ le_bytes 4 r.grade ++ le_bytes 4 0) (joined (pattern_bytes r.numbers) 13)
    ∙ omega (arith, four_long r.panel r.camera r.grade 0, length_joined (pattern_bytes r.numbers) 8 (pattern_length r.numbers) 13)

pub book_length_lem : (f : ℕ → FitRecord) (n : ℕ) → length (book_bytes f n) ≡ book_length n
unfolding book_bytes
book_length_lem f n =
    length-append (header n) (joined (λ j. record_bytes (f j)) n)
    ∙ omega (arith, header_length n, length_joined (λ j. record_bytes (f j)) 120 (λ j. record_length_lem (f j)) n)

-- ---- the book: the header, and record j after the records before it; l is the area with the header in it
module _ (f : ℕ → FitRecord) (n : ℕ) where
  abbrev parts : ℕ → List ℕ
  parts j = record_bytes (f j)

  pub book_begin : (x l : List ℕ) → x ≡ header n → x ++ drop 16 l ≡ over (header n ++ joined parts 0) (x ++ drop 16 l)
  unfolding joined
  book_begin x l e =
      let z : header n ++ [] ≡ header n = append-nil (header n) in
      let h : length x ≡ 16 = ap length e ∙ header_length n in
      ap (λ t. t ++ drop 16 l) e
      ∙ ap (λ t. header n ++ t) (sym (drop_at x (drop 16 l) 16 h))
      ∙ ap (λ k. header n ++ drop k (x ++ drop 16 l)) (sym (header_length n))
      ∙ ap (λ t. over t (x ++ drop 16 l)) (sym z)

  pub book_next : (l b x : List ℕ) (j : ℕ) → b ≡ over (header n ++ joined parts j) l → x ≡ record_bytes (f j)
      → put_mid (16 + 120 * j) (16 + 120 * j + 120 - (16 + 120 * j)) b x ≡ over (header n ++ joined parts (j + 1)) l
  book_next l b x j h e = over_joined parts 120 (λ i. record_length_lem (f i)) (header n) l b x (16 + 120 * j) j h (omega (arith, header_length n)) e

  pub book_end : (l b e : List ℕ) (j : ℕ) → b ≡ over (header n ++ joined parts j) l → j ≡ n → drop (book_length n) l ≡ drop (book_length n) e
      → b ≡ book_bytes f n ++ drop (book_length n) e
  unfolding book_bytes
  book_end l b e j h i d =
      let z : length (header n) + 120 * n ≡ book_length n = omega (arith, header_length n) in
      over_joined_end parts 120 (λ i. record_length_lem (f i)) (header n) l b j n h i
      ∙ ap (λ k. header n ++ joined parts n ++ drop k l) z
      ∙ ap (λ t. header n ++ joined parts n ++ t) d
