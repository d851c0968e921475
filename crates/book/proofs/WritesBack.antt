-- A book that was read is written to its bytes again: `WritesBack` of specs/Meaning. Assumes nothing.
use mathlib.Core.Path.{◌≡◌, refl, sym, ap, subst, ◌∙◌}
use mathlib.Core.Bool.{true}
use mathlib.Core.List.{List, ◌++◌}
use Prim.Native.Nat.{ℕ, ◌+◌, ◌*◌, ◌/◌, ◌%◌, ◌^◌, ◌≤◌, ◌<◌}
use native.Mathlib.Omega.{arith}
use lib.ListN.{length, get_or, take, drop}
use lib.Seq.{take_all, get_or-take, get_or-drop}
use Rattle.frame.specs.Refusals.{lowest_of}
use Rattle.base.specs.Bytes.{AllBelow, le_bytes}
use Rattle.base.specs.Loops.{filled, joined}
use Rattle.base.proofs.Bytes.{writes_read, little_endian_below}
use Rattle.base.proofs.Every.{one_every}
use Rattle.base.proofs.Joined.{joined_spans}
use Rattle.base.proofs.Spans.{span, span_join}
use borrow.Author.Tests.{le-leb}
use Rattle.std.specs.Prelude.{Ok}
use Rattle.book.proofs.Tested.{none_holds, value_given, accepted_by}
use Rattle.book.proofs.Refusing.{Lent, sorted_gives}
use Rattle.base.proofs.Plane.{filled_at, length_filled}
use Rattle.book.specs.Layout.{book_length, header, pattern_bytes, record_bytes, book_bytes, u32_at, u64_at, count_in, key_in, key_at, grade_in, grade_at, zero_in, head_entry, number_entry, record_at}
use Rattle.book.specs.Promises.{read_tests, write_tests, grades_held, keys_rise}
use Rattle.book.specs.Meaning.{Before, Rise, Headed, WellFormed, ReadRefusal, WritesBack}
use Rattle.book.specs.Meaning.ReadRefusal.{malformed, unsorted, short, none}
use Rattle.book.proofs.Meaning.{rise_is, reader_given}

module _ (b : List ℕ) (bytes : AllBelow 256 b) where
  u32_back : (p : ℕ) → p + 4 ≤ length b → le_bytes 4 (u32_at b p) ≡ span b p 4
  unfolding u32_at
  u32_back p h = writes_read 4 p b bytes h

  u64_back : (p : ℕ) → p + 8 ≤ length b → le_bytes 8 (u64_at b p) ≡ span b p 8
  unfolding u64_at
  u64_back p h = writes_read 8 p b bytes h

  -- four u32 one after the other
  four_back : (p : ℕ) → p + 16 ≤ length b → le_bytes 4 (u32_at b p) ++ le_bytes 4 (u32_at b (p + 4)) ++ le_bytes 4 (u32_at b (p + 8)) ++ le_bytes 4 (u32_at b (p + 12)) ≡ span b p 16
  four_back p h =
      ap (λ l. l ++ le_bytes 4 (u32_at b (p + 4)) ++ le_bytes 4 (u32_at b (p + 8)) ++ le_bytes 4 (u32_at b (p + 12))) (u32_back p (omega arith))
      ∙ ap (λ l. span b p 4 ++ l ++ le_bytes 4 (u32_at b (p + 8)) ++ le_bytes 4 (u32_at b (p + 12))) (u32_back (p + 4) (omega arith))
      ∙ ap (λ l. l ++ le_bytes 4 (u32_at b (p + 8)) ++ le_bytes 4 (u32_at b (p + 12))) (span_join b p 4 (p + 4) 4 refl)
      ∙ ap (λ l. span b p 8 ++ l ++ le_bytes 4 (u32_at b (p + 12))) (u32_back (p + 8) (omega arith))
      ∙ ap (λ l. l ++ le_bytes 4 (u32_at b (p + 12))) (span_join b p 8 (p + 8) 4 refl)
      ∙ ap (λ l. span b p 12 ++ l) (u32_back (p + 12) (omega arith))
      ∙ span_join b p 12 (p + 12) 4 refl

  -- a right header
  pub header_back : Headed b → header (count_in b) ≡ span b 0 16
  unfolding header count_in
  header_back w =
      ap (λ v. le_bytes 4 (u32_at b 0) ++ le_bytes 4 v ++ le_bytes 4 120 ++ le_bytes 4 (book_length (u32_at b 0))) (sym w.offset)
      ∙ ap (λ v. le_bytes 4 (u32_at b 0) ++ le_bytes 4 (u32_at b 4) ++ le_bytes 4 v ++ le_bytes 4 (book_length (u32_at b 0))) (sym w.each)
      ∙ ap (λ v. le_bytes 4 (u32_at b 0) ++ le_bytes 4 (u32_at b 4) ++ le_bytes 4 (u32_at b 8) ++ le_bytes 4 v) (sym w.total)
      ∙ four_back 0 (omega (arith, w.headed))

  pub u32_below : (p : ℕ) → p + 4 ≤ length b → u32_at b p < 256 ^ 4
  unfolding u32_at
  u32_below p h = little_endian_below 4 p b bytes h

-- what the reader's acceptance says
pub record Accepted (b heads numbers : List ℕ) : Type 0 where
  pub formed : WellFormed b
  pub rises : Rise (key_in b) (count_in b)
  pub heads_held : 3 * count_in b ≤ length heads
  pub numbers_held : 13 * count_in b ≤ length numbers

pub accepted_read : (b heads numbers : List ℕ) → lowest_of (read_tests b heads numbers) ≡ 0 → Accepted b heads numbers
accepted_read b heads numbers z = go (reader_given b heads numbers)
  where
    go : ReadRefusal b heads numbers (lowest_of (read_tests b heads numbers)) → Accepted b heads numbers
    go (malformed e w) = absurd (omega (arith, e, z))
    go (unsorted e w r) = absurd (omega (arith, e, z))
    go (short e w r s) = absurd (omega (arith, e, z))
    go (none e w r h k) = record { formed = w; rises = r; heads_held = h; numbers_held = k }

module _ (b heads numbers heads' numbers' : List ℕ) (bytes : AllBelow 256 b) (A : Accepted b heads numbers)
    (heads_are : heads' ≡ filled (head_entry b) (3 * count_in b) heads) (numbers_are : numbers' ≡ filled (number_entry b) (13 * count_in b) numbers) where
  abbrev n : ℕ
  n = count_in b

  whole : length b ≡ book_length n
  whole = A.formed.header.all ∙ A.formed.header.total

  -- entry by entry
  head_is : (j f : ℕ) → j < n → f < 3 → get_or heads' (3 * j + f) 0 ≡ u32_at b (book_length j + 4 * f)
  unfolding head_entry
  head_is j f h k =
      let q : (3 * j + f) / 3 ≡ j = omega arith in
      let r : (3 * j + f) % 3 ≡ f = omega arith in
      ap (λ l. get_or l (3 * j + f) 0) heads_are
      ∙ filled_at (head_entry b) heads (3 * n) (3 * j + f) 0 (omega arith) A.heads_held
      ∙ ap (λ i. u32_at b (book_length i + 4 * ((3 * j + f) % 3))) q
      ∙ ap (λ i. u32_at b (book_length j + 4 * i)) r

  number_is : (j i : ℕ) → j < n → i < 13 → get_or numbers' (13 * j + i) 0 ≡ u64_at b (book_length j + 16 + 8 * i)
  unfolding number_entry
  number_is j i h k =
      let q : (13 * j + i) / 13 ≡ j = omega arith in
      let r : (13 * j + i) % 13 ≡ i = omega arith in
      ap (λ l. get_or l (13 * j + i) 0) numbers_are
      ∙ filled_at (number_entry b) numbers (13 * n) (13 * j + i) 0 (omega arith) A.numbers_held
      ∙ ap (λ m. u64_at b (book_length m + 16 + 8 * ((13 * j + i) % 13))) q
      ∙ ap (λ m. u64_at b (book_length j + 16 + 8 * m)) r

  panel_is : (j : ℕ) → j < n → get_or heads' (3 * j) 0 ≡ u32_at b (book_length j)
  panel_is j h =
      let e : 3 * j ≡ 3 * j + 0 = omega arith in
      let p : book_length j + 4 * 0 ≡ book_length j = omega arith in
      ap (λ i. get_or heads' i 0) e ∙ head_is j 0 h (omega arith) ∙ ap (u32_at b) p

  camera_is : (j : ℕ) → j < n → get_or heads' (3 * j + 1) 0 ≡ u32_at b (book_length j + 4)
  camera_is j h = head_is j 1 h (omega arith)

  grade_is : (j : ℕ) → j < n → get_or heads' (3 * j + 2) 0 ≡ u32_at b (book_length j + 8)
  grade_is j h = head_is j 2 h (omega arith)

  zero_at : (j : ℕ) → j < n → u32_at b (book_length j + 12) ≡ 0
  unfolding zero_in
  zero_at j h = A.formed.zeros j h

  -- a record's bytes, the book's
  pattern_back : (j i : ℕ) → j < n → i < 13 → pattern_bytes (take 13 (drop (13 * j) numbers')) i ≡ span b (book_length j + 16 + 8 * i) 8
  unfolding pattern_bytes
  pattern_back j i h k =
      ap (le_bytes 8) (get_or-take 13 (drop (13 * j) numbers') i 0 k ∙ get_or-drop (13 * j) numbers' i 0 ∙ number_is j i h k)
      ∙ u64_back b bytes (book_length j + 16 + 8 * i) (omega (arith, whole))

  patterns_back : (j : ℕ) → j < n → joined (pattern_bytes (take 13 (drop (13 * j) numbers'))) 13 ≡ span b (book_length j + 16) 104
  patterns_back j h = joined_spans b _ (book_length j + 16) 8 13 (λ i k. pattern_back j i h k)

  record_back : (j : ℕ) → j < n → record_bytes (record_at heads' numbers' j) ≡ span b (16 + 120 * j) 120
  unfolding record_bytes record_at
  record_back j h =
      let p = book_length j in
      let rest = joined (pattern_bytes (take 13 (drop (13 * j) numbers'))) 13 in
      let z : 0 ≡ u32_at b (p + 12) = sym (zero_at j h) in
      ap (λ v. le_bytes 4 v ++ le_bytes 4 (get_or heads' (3 * j + 1) 0) ++ le_bytes 4 (get_or heads' (3 * j + 2) 0) ++ le_bytes 4 0 ++ rest) (panel_is j h)
      ∙ ap (λ v. le_bytes 4 (u32_at b p) ++ le_bytes 4 v ++ le_bytes 4 (get_or heads' (3 * j + 2) 0) ++ le_bytes 4 0 ++ rest) (camera_is j h)
      ∙ ap (λ v. le_bytes 4 (u32_at b p) ++ le_bytes 4 (u32_at b (p + 4)) ++ le_bytes 4 v ++ le_bytes 4 0 ++ rest) (grade_is j h)
      ∙ ap (λ v. le_bytes 4 (u32_at b p) ++ le_bytes 4 (u32_at b (p + 4)) ++ le_bytes 4 (u32_at b (p + 8)) ++ le_bytes 4 v ++ rest) z
      ∙ ap (λ l. l ++ rest) (four_back b bytes p (omega (arith, whole)))
      ∙ ap (λ l. span b p 16 ++ l) (patterns_back j h)
      ∙ span_join b p 16 (p + 16) 104 refl

  pub book_back : book_bytes (record_at heads' numbers') n ≡ b
  unfolding book_bytes
  book_back =
      ap (λ l. l ++ joined (λ j. record_bytes (record_at heads' numbers' j)) n) (header_back b bytes A.formed.header)
      ∙ ap (λ l. span b 0 16 ++ l) (joined_spans b _ 16 120 n record_back)
      ∙ span_join b 0 16 16 (120 * n) (omega arith)
      ∙ take_all (16 + 120 * n) b (omega (arith, whole))

  -- the writer accepts them
  keys_are : (j : ℕ) → j < n → key_at heads' j ≡ key_in b j
  unfolding key_at key_in
  keys_are j h = ap (λ p. record { panel = p; camera = get_or heads' (3 * j + 1) 0 }) (panel_is j h) ∙ ap (λ c. record { panel = u32_at b (book_length j); camera = c }) (camera_is j h)

  graded : grades_held heads' n ≡ true
  unfolding grades_held grade_at grade_in
  graded = one_every _ n (λ j h. le-leb _ 2 (subst (λ g. g ≤ 2) (sym (grade_is j h)) (A.formed.grades j h)))

  risen : keys_rise (key_at heads') n ≡ true
  risen = (rise_is (key_at heads') n).1
      (λ i j l h. subst (λ k. Before k (key_at heads' j)) (sym (keys_are i (omega arith))) (subst (Before (key_in b i)) (sym (keys_are j h)) (A.rises i j l h)))

  pub writes_accepted : (area : List ℕ) → length b ≤ length area → lowest_of (write_tests heads' numbers' n area) ≡ 0
  writes_accepted area r =
      let few : u32_at b 12 < 256 ^ 4 = u32_below b bytes 12 (omega (arith, A.formed.header.headed)) in
      let hl : length heads' ≡ length heads = ap length heads_are ∙ length_filled (head_entry b) heads (3 * n) in
      let xl : length numbers' ≡ length numbers = ap length numbers_are ∙ length_filled (number_entry b) numbers (13 * n) in
      let l : Lent heads' numbers' n area = record {
        heads_held = omega (arith, A.heads_held);
        numbers_held = omega (arith, A.numbers_held);
        headed = omega (arith, A.formed.header.headed);
        book_held = omega (arith, whole);
      } in
      none_holds {A = ℕ} (write_tests heads' numbers' n area) 0 (sym (sorted_gives 0 heads' numbers' n area l (omega (arith, A.formed.header.total)) graded risen))

pub writes_back : WritesBack
writes_back b heads numbers heads' numbers' n area area' a bytes R W r =
    let none = none_holds (read_tests b heads numbers) (count_in b) (sym R.given) in
    let count : n ≡ count_in b = value_given (read_tests b heads numbers) (count_in b) (sym R.given) in
    let A = accepted_read b heads numbers none in
    let h = R.heads_are none in
    let k = R.numbers_are none in
    let long : length b ≡ book_length n = A.formed.header.all ∙ A.formed.header.total ∙ ap book_length (sym count) in
    let z : lowest_of (write_tests heads' numbers' n area) ≡ 0 =
    ap (λ m. lowest_of (write_tests heads' numbers' m area)) count ∙ writes_accepted b heads numbers heads' numbers' bytes A h k area r in (
      W.given ∙ accepted_by (write_tests heads' numbers' n area) (book_length n) z ∙ ap Ok (sym long),
      W.accepted z
          ∙ ap (λ m. book_bytes (record_at heads' numbers') m ++ drop (book_length n) area) count
          ∙ ap (λ l. l ++ drop (book_length n) area) (book_back b heads numbers heads' numbers' bytes A h k)
          ∙ ap (λ m. b ++ drop m area) (sym long),
    )
