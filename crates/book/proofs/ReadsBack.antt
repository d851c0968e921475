-- A book that was written is read to its records again: `ReadsBack` of specs/Meaning. Assumes nothing.
use mathlib.Core.Path.{◌≡◌, refl, sym, ap, subst, ◌∙◌}
use mathlib.Core.Bool.{true, false, not, ◌||◌}
use mathlib.Core.List.{List, ◌++◌}
use mathlib.Core.Logic.{inl, inr, ⊎_elim}
use Prim.Native.Nat.{ℕ, zero, suc, ◌+◌, ◌*◌, ◌/◌, ◌%◌, ◌^◌, ◌≤◌, ◌<◌}
use native.Mathlib.Omega.{arith}
use lib.Dec.{leb, ltb}
use lib.ListN.{length, get_or, take, drop, length-append}
use lib.Seq.{length-take-le, take_all, take_at, get_or-take, get_or-drop}
use Rattle.frame.specs.Refusals.{lowest_of}
use Rattle.base.specs.Bytes.{AllBelow, le_bytes}
use Rattle.base.specs.Loops.{filled, joined}
use Rattle.base.proofs.Bytes.{length_le_bytes, reads_written}
use Rattle.base.proofs.Every.{every_one}
use Rattle.base.proofs.Spans.{span, span_left, span_right, span_within}
use Rattle.base.proofs.Joined.{length_joined, joined_part}
use Rattle.base.proofs.Table.{table_is, filled_front}
use Rattle.base.proofs.Tests.{fails, or_left, or_right}
use borrow.Author.Tests.{leb-true, ltb-false, not-false}
use Rattle.std.specs.Prelude.{Ok}
use Rattle.book.proofs.Tested.{none_holds, value_given, accepted_by}
use Rattle.frame.proofs.Lowest.{none_tested}
use Rattle.book.proofs.Written.{four_long, header_length, pattern_length, record_length_lem, book_length_lem}
use Rattle.book.specs.Layout.{book_length, header, pattern_bytes, record_bytes, book_bytes, u32_at, u64_at, count_in, key_in, key_at, grade_in, grade_at, zero_in, head_entry, number_entry, record_at}
use Rattle.book.specs.Promises.{read_tests, write_tests, grades_held, keys_rise, Reading}
use Rattle.book.specs.Meaning.{Before, Rise, Headed, WellFormed, ReadRefusal, ReadsBack}
use Rattle.book.specs.Meaning.ReadRefusal.{malformed, unsorted, short, none}
use Rattle.book.proofs.Meaning.{rise_is, reader_given}
use Rattle.book.specs.declared.FitRecord.{FitRecord}

-- four u32, and what follows
module _ (a c g z : ℕ) (rest : List ℕ) where
  abbrev two : List ℕ
  two = le_bytes 4 a ++ le_bytes 4 c

  abbrev words : List ℕ
  words = two ++ le_bytes 4 g ++ le_bytes 4 z

  two_long : length two ≡ 8
  two_long = length-append (le_bytes 4 a) (le_bytes 4 c) ∙ omega (arith, length_le_bytes 4 a, length_le_bytes 4 c)

  three_long : length (two ++ le_bytes 4 g) ≡ 12
  three_long = length-append two (le_bytes 4 g) ∙ omega (arith, two_long, length_le_bytes 4 g)

  words_long : length words ≡ 16
  words_long = four_long a c g z

  alone : (v : ℕ) → span (le_bytes 4 v) 0 4 ≡ le_bytes 4 v
  alone v = take_all 4 (le_bytes 4 v) (omega (arith, length_le_bytes 4 v))

  first : span (words ++ rest) 0 4 ≡ le_bytes 4 a
  first =
      span_left words rest 0 4 (omega (arith, words_long))
      ∙ span_left (two ++ le_bytes 4 g) (le_bytes 4 z) 0 4 (omega (arith, three_long))
      ∙ span_left two (le_bytes 4 g) 0 4 (omega (arith, two_long))
      ∙ span_left (le_bytes 4 a) (le_bytes 4 c) 0 4 (omega (arith, length_le_bytes 4 a))
      ∙ alone a

  second : span (words ++ rest) 4 4 ≡ le_bytes 4 c
  second =
      span_left words rest 4 4 (omega (arith, words_long))
      ∙ span_left (two ++ le_bytes 4 g) (le_bytes 4 z) 4 4 (omega (arith, three_long))
      ∙ span_left two (le_bytes 4 g) 4 4 (omega (arith, two_long))
      ∙ span_right (le_bytes 4 a) (le_bytes 4 c) 4 0 4 (omega (arith, length_le_bytes 4 a))
      ∙ alone c

  third : span (words ++ rest) 8 4 ≡ le_bytes 4 g
  third =
      span_left words rest 8 4 (omega (arith, words_long))
      ∙ span_left (two ++ le_bytes 4 g) (le_bytes 4 z) 8 4 (omega (arith, three_long))
      ∙ span_right two (le_bytes 4 g) 8 0 4 (omega (arith, two_long))
      ∙ alone g

  fourth : span (words ++ rest) 12 4 ≡ le_bytes 4 z
  fourth =
      span_left words rest 12 4 (omega (arith, words_long))
      ∙ span_right (two ++ le_bytes 4 g) (le_bytes 4 z) 12 0 4 (omega (arith, three_long))
      ∙ alone z

  -- and past them
  behind : (p q n : ℕ) → p ≡ 16 + q → span (words ++ rest) p n ≡ span rest q n
  behind p q n e = span_right words rest p q n (omega (arith, words_long))

-- the header's words, whatever follows
module _ (n : ℕ) (rest : List ℕ) (few : book_length n < 2 ^ 32) where
  word_of : (p v : ℕ) → v < 2 ^ 32 → span (header n ++ rest) p 4 ≡ le_bytes 4 v → u32_at (header n ++ rest) p ≡ v
  unfolding u32_at
  word_of p v l s = reads_written 4 v p (header n ++ rest) (omega arith) s

  pub count_in_lem : count_in (header n ++ rest) ≡ n
  unfolding count_in header
  count_in_lem = word_of 0 n (omega arith) (first n 16 120 (book_length n) rest)

  pub offset_in : u32_at (header n ++ rest) 4 ≡ 16
  unfolding header
  offset_in = word_of 4 16 (omega arith) (second n 16 120 (book_length n) rest)

  pub each_in : u32_at (header n ++ rest) 8 ≡ 120
  unfolding header
  each_in = word_of 8 120 (omega arith) (third n 16 120 (book_length n) rest)

  pub total_in : u32_at (header n ++ rest) 12 ≡ book_length n
  unfolding header
  total_in = word_of 12 (book_length n) few (fourth n 16 120 (book_length n) rest)

  -- .. and a header that they make
  pub headed_in : length rest ≡ 120 * n → Headed (header n ++ rest)
  headed_in e =
      let long : length (header n ++ rest) ≡ book_length n = length-append (header n) rest ∙ omega (arith, header_length n) in
      record {
        headed = omega (arith, long);
        offset = offset_in;
        each = each_in;
        total = total_in ∙ ap book_length (sym count_in_lem);
        all = long ∙ sym total_in;
      }

-- the bytes of a record, by their places in it
module _ (r : FitRecord) where
  abbrev tail : List ℕ
  tail = joined (pattern_bytes r.numbers) 13

  panel_at : span (record_bytes r) 0 4 ≡ le_bytes 4 r.panel
  unfolding record_bytes
  panel_at = first r.panel r.camera r.grade 0 tail

  camera_at : span (record_bytes r) 4 4 ≡ le_bytes 4 r.camera
  unfolding record_bytes
  camera_at = second r.panel r.camera r.grade 0 tail

  grade_at_lem : span (record_bytes r) 8 4 ≡ le_bytes 4 r.grade
  unfolding record_bytes
  grade_at_lem = third r.panel r.camera r.grade 0 tail

  zero_field : span (record_bytes r) 12 4 ≡ le_bytes 4 0
  unfolding record_bytes
  zero_field = fourth r.panel r.camera r.grade 0 tail

  pattern_at : (i : ℕ) → i < 13 → span (record_bytes r) (16 + 8 * i) 8 ≡ le_bytes 8 (get_or r.numbers i 0)
  unfolding record_bytes pattern_bytes
  pattern_at i h =
      behind r.panel r.camera r.grade 0 tail (16 + 8 * i) (8 * i) 8 refl
      ∙ joined_part (pattern_bytes r.numbers) 8 (pattern_length r.numbers) 13 i h

module _ (f : ℕ → FitRecord) (n : ℕ) where
  abbrev book : List ℕ
  book = book_bytes f n

  abbrev records : List ℕ
  records = joined (λ j. record_bytes (f j)) n

  -- record j stands in the book
  record_in_lem : (j p o m : ℕ) → j < n → o + m ≤ 120 → p ≡ book_length j + o → span book p m ≡ span (record_bytes (f j)) o m
  unfolding book_bytes
  record_in_lem j p o m h r e =
      let long : length records ≡ 120 * n = length_joined (λ j. record_bytes (f j)) 120 (λ j. record_length_lem (f j)) n in
      span_right (header n) records p (120 * j + o) m (omega (arith, header_length n, e))
      ∙ span_within records (120 * j) 120 (120 * j + o) o m (omega (arith, long)) r refl
      ∙ ap (λ l. span l o m) (joined_part (λ j. record_bytes (f j)) 120 (λ j. record_length_lem (f j)) n j h)

  word_in : (j p o v : ℕ) → j < n → o + 4 ≤ 120 → p ≡ book_length j + o → v < 2 ^ 32 → span (record_bytes (f j)) o 4 ≡ le_bytes 4 v → u32_at book p ≡ v
  unfolding u32_at
  word_in j p o v h r e l s = reads_written 4 v p book (omega arith) (record_in_lem j p o 4 h r e ∙ s)

  pattern_in : (j i v : ℕ) → j < n → i < 13 → v < 2 ^ 64 → v ≡ get_or (f j).numbers i 0 → u64_at book (book_length j + 16 + 8 * i) ≡ v
  unfolding u64_at
  pattern_in j i v h k l e =
      let p : book_length j + 16 + 8 * i ≡ book_length j + (16 + 8 * i) = omega arith in
      reads_written 8 v (book_length j + 16 + 8 * i) book (omega arith)
      (record_in_lem j (book_length j + 16 + 8 * i) (16 + 8 * i) 8 h (omega arith) p ∙ pattern_at (f j) i k ∙ ap (le_bytes 8) (sym e))

grade_true : (heads : List ℕ) (n : ℕ) → grades_held heads n ≡ true → (j : ℕ) → j < n → leb (get_or heads (3 * j + 2) 0) 2 ≡ true
unfolding grades_held grade_at
grade_true heads n e j h = every_one _ n e j h

-- what the writer's acceptance says
pub record Written (heads numbers : List ℕ) (n : ℕ) (area : List ℕ) : Type 0 where
  pub heads_held : 3 * n ≤ length heads
  pub numbers_held : 13 * n ≤ length numbers
  pub room : book_length n ≤ length area
  pub few : book_length n < 2 ^ 32
  pub grades : grades_held heads n ≡ true
  pub keys : keys_rise (key_at heads) n ≡ true

pub accepted_write : (heads numbers : List ℕ) (n : ℕ) (area : List ℕ) → lowest_of (write_tests heads numbers n area) ≡ 0 → Written heads numbers n area
unfolding write_tests
accepted_write heads numbers n area e =
    let none = none_tested _ (omega arith, (omega arith, (omega arith, tt))) e in
    let short : (ltb (length heads) (3 * n) || ltb (length numbers) (13 * n) || ltb (length area) (book_length n)) ≡ false = fails _ (λ t. none 3 (inl (refl, t))) in
    let lists : (ltb (length heads) (3 * n) || ltb (length numbers) (13 * n)) ≡ false = or_left (ltb (length heads) (3 * n) || ltb (length numbers) (13 * n)) _ short in
    let wrong : (ltb 4294967295 (book_length n) || not (grades_held heads n)) ≡ false = fails _ (λ t. none 14 (inr (inl (refl, t)))) in
    let total : book_length n ≤ 4294967295 = ltb-false 4294967295 (book_length n) (or_left (ltb 4294967295 (book_length n)) _ wrong) in
    record {
      heads_held = ltb-false (length heads) (3 * n) (or_left (ltb (length heads) (3 * n)) _ lists);
      numbers_held = ltb-false (length numbers) (13 * n) (or_right (ltb (length heads) (3 * n)) _ lists);
      room = ltb-false (length area) (book_length n) (or_right (ltb (length heads) (3 * n) || ltb (length numbers) (13 * n)) _ short);
      few = omega arith;
      grades = not-false _ (or_right (ltb 4294967295 (book_length n)) _ wrong);
      keys = not-false _ (fails _ (λ t. none 15 (inr (inr (inl (refl, t))))));
    }

module _ (heads numbers : List ℕ) (n : ℕ) (area : List ℕ) (u32 : AllBelow (2 ^ 32) heads) (u64 : AllBelow (2 ^ 64) numbers) (K : Written heads numbers n area) where
  abbrev written : List ℕ
  written = book_bytes (record_at heads numbers) n

  -- entry by entry
  head_in : (j f : ℕ) → j < n → f < 3 → u32_at written (book_length j + 4 * f) ≡ get_or heads (3 * j + f) 0
  unfolding record_at
  head_in j zero h k =
      let e : 3 * j ≡ 3 * j + 0 = omega arith in
      word_in (record_at heads numbers) n j (book_length j + 4 * 0) 0 (get_or heads (3 * j) 0) h (omega arith) (omega arith) (u32 (3 * j)) (panel_at (record_at heads numbers j))
      ∙ ap (λ i. get_or heads i 0) e
  head_in j (suc zero) h k =
      word_in (record_at heads numbers) n j (book_length j + 4 * 1) 4 (get_or heads (3 * j + 1) 0) h (omega arith) (omega arith) (u32 (3 * j + 1))
      (camera_at (record_at heads numbers j))
  head_in j (suc (suc zero)) h k =
      word_in (record_at heads numbers) n j (book_length j + 4 * 2) 8 (get_or heads (3 * j + 2) 0) h (omega arith) (omega arith) (u32 (3 * j + 2))
      (grade_at_lem (record_at heads numbers j))
  head_in j (suc (suc (suc f))) h k = absurd (omega arith)

  number_in : (j i : ℕ) → j < n → i < 13 → u64_at written (book_length j + 16 + 8 * i) ≡ get_or numbers (13 * j + i) 0
  unfolding record_at
  number_in j i h k =
      pattern_in (record_at heads numbers) n j i (get_or numbers (13 * j + i) 0) h k (u64 (13 * j + i))
      (sym (get_or-take 13 (drop (13 * j) numbers) i 0 k ∙ get_or-drop (13 * j) numbers i 0))

  -- the records, one after another
  abbrev parts : List ℕ
  parts = records (record_at heads numbers) n

  count_is : count_in written ≡ n
  unfolding book_bytes
  count_is = count_in_lem n parts K.few

  key_in_lem : (j : ℕ) → j < n → key_in written j ≡ key_at heads j
  unfolding key_in key_at
  key_in_lem j h =
      let p : book_length j ≡ book_length j + 4 * 0 = omega arith in
      let q : 3 * j + 0 ≡ 3 * j = omega arith in
      ap (λ x. record { panel = x; camera = u32_at written (book_length j + 4) }) (ap (u32_at written) p ∙ head_in j 0 h (omega arith) ∙ ap (λ i. get_or heads i 0) q)
      ∙ ap (λ x. record { panel = get_or heads (3 * j) 0; camera = x }) (head_in j 1 h (omega arith))

  grade_in_lem : (j : ℕ) → j < n → grade_in written j ≤ 2
  unfolding grade_in
  grade_in_lem j h = subst (λ g. g ≤ 2) (sym (head_in j 2 h (omega arith))) (held j h)
    where
      held : (j : ℕ) → j < n → get_or heads (3 * j + 2) 0 ≤ 2
      held j h = leb-true (get_or heads (3 * j + 2) 0) 2 (grade_true heads n K.grades j h)

  zero_in_lem : (j : ℕ) → j < n → zero_in written j ≡ 0
  unfolding zero_in
  zero_in_lem j h = word_in (record_at heads numbers) n j (book_length j + 12) 12 0 h (omega arith) refl (omega arith) (zero_field (record_at heads numbers j))

  headed : Headed written
  unfolding book_bytes
  headed = headed_in n parts K.few (length_joined (λ j. record_bytes (record_at heads numbers j)) 120 (λ j. record_length_lem (record_at heads numbers j)) n)

  formed : WellFormed written
  formed =
      record {
        header = headed;
        grades = λ j h. grade_in_lem j (omega (arith, count_is));
        zeros = λ j h. zero_in_lem j (omega (arith, count_is));
      }

  rises : Rise (key_in written) (count_in written)
  rises i j l h =
      let k : j < n = omega (arith, count_is) in
      subst (λ x. Before x (key_in written j)) (sym (key_in_lem i (omega arith))) (subst (Before (key_at heads i)) (sym (key_in_lem j k)) ((rise_is (key_at heads) n).0 K.keys i j l k))

  pub reads_accepted : (x y : List ℕ) → 3 * n ≤ length x → 13 * n ≤ length y → lowest_of (read_tests written x y) ≡ 0
  reads_accepted x y h k = go (reader_given written x y)
    where
      go : ReadRefusal written x y (lowest_of (read_tests written x y)) → lowest_of (read_tests written x y) ≡ 0
      go (malformed e w) = absurd (w formed)
      go (unsorted e w r) = absurd (r rises)
      go (short e w r s) = absurd (⊎_elim (λ q. omega (arith, q, count_is)) (λ q. omega (arith, q, count_is)) s)
      go (none e w r p q) = e

  pub heads_back : (x : List ℕ) → 3 * n ≤ length x → filled (head_entry written) (3 * count_in written) x ≡ take (3 * n) heads ++ drop (3 * n) x
  unfolding head_entry
  heads_back x h =
      ap (λ m. filled (head_entry written) (3 * m) x) count_is
      ∙ filled_front (head_entry written) (3 * n) 0 x h
      ∙ ap (λ t. t ++ drop (3 * n) x) (sym (table_is (head_entry written) (3 * n) 0 (take (3 * n) heads) (length-take-le (3 * n) heads K.heads_held) each))
    where
      each : (k : ℕ) → k < 3 * n → get_or (take (3 * n) heads) k 0 ≡ u32_at written (book_length (k / 3) + 4 * (k % 3))
      each k l =
          let e : k ≡ 3 * (k / 3) + k % 3 = omega arith in
          get_or-take (3 * n) heads k 0 l ∙ ap (λ i. get_or heads i 0) e ∙ sym (head_in (k / 3) (k % 3) (omega arith) (omega arith))

  pub numbers_back : (y : List ℕ) → 13 * n ≤ length y → filled (number_entry written) (13 * count_in written) y ≡ take (13 * n) numbers ++ drop (13 * n) y
  unfolding number_entry
  numbers_back y h =
      ap (λ m. filled (number_entry written) (13 * m) y) count_is
      ∙ filled_front (number_entry written) (13 * n) 0 y h
      ∙ ap (λ t. t ++ drop (13 * n) y) (sym (table_is (number_entry written) (13 * n) 0 (take (13 * n) numbers) (length-take-le (13 * n) numbers K.numbers_held) each))
    where
      each : (k : ℕ) → k < 13 * n → get_or (take (13 * n) numbers) k 0 ≡ u64_at written (book_length (k / 13) + 16 + 8 * (k % 13))
      each k l =
          let e : k ≡ 13 * (k / 13) + k % 13 = omega arith in
          get_or-take (13 * n) numbers k 0 l ∙ ap (λ i. get_or numbers i 0) e ∙ sym (number_in (k / 13) (k % 13) (omega arith) (omega arith))

pub reads_back : ReadsBack
reads_back heads numbers n area area' m x y x' y' a u32 u64 W R h k =
    let none = none_holds (write_tests heads numbers n area) (book_length n) (sym W.given) in
    let size : m ≡ book_length n = value_given (write_tests heads numbers n area) (book_length n) (sym W.given) in
    let K = accepted_write heads numbers n area none in
    let b = book_bytes (record_at heads numbers) n in
    let cut : take m area' ≡ b = ap (take m) (W.accepted none) ∙ take_at b (drop (book_length n) area) m (book_length_lem (record_at heads numbers) n ∙ sym size) in
    let S : Reading b x y x' y' a = subst (λ l. Reading l x y x' y' a) cut R in
    let z = reads_accepted heads numbers n area u32 u64 K x y h k in (
      S.given ∙ accepted_by (read_tests b x y) (count_in b) z ∙ ap Ok (count_is heads numbers n area u32 u64 K),
      S.heads_are z ∙ heads_back heads numbers n area u32 u64 K x h,
      S.numbers_are z ∙ numbers_back heads numbers n area u32 u64 K y k,
    )
