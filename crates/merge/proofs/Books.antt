-- Records, and the bytes of a book that holds them. Assumes nothing.
use Prim.Native.Nat.{ℕ, zero, suc, ◌+◌, ◌*◌, ◌^◌, ◌≤◌, ◌<◌}
use mathlib.Core.Path.{◌≡◌, refl, sym, ap, subst, ◌∙◌}
use mathlib.Core.Logic.{inl, inr}
use mathlib.Core.List.{List, [], ◌∷◌, ◌++◌, flatten}
use native.Mathlib.Omega.{arith}
use lib.ListN.{length, get_or, drop, length-append, length-drop}
use lib.Seq.{length-take-le, take_all, get_or-take, get_or-drop}
use Rattle.base.specs.Bytes.{AllBelow, le_number, little_endian}
use Rattle.base.specs.Loops.{table}
use Rattle.base.proofs.Joined.{joined_spans, flatten_table}
use Rattle.base.proofs.Members.{In, in_table, table_in}
use Rattle.base.proofs.Spans.{span, span_left, span_right, span_join, span_within}
use Rattle.base.proofs.Table.{length_table}
use Rattle.book.specs.Layout.{book_length, header, u32_at, count_in, key_in, grade_in, zero_in}
use Rattle.book.specs.Meaning.{Before, Headed}
use Rattle.book.proofs.Written.{header_length}
use Rattle.book.proofs.ReadsBack.{count_in_lem, headed_in}
use Rattle.book.proofs.WritesBack.{u32_below, header_back}
use Rattle.merge.specs.Merged.{record_in, records, key_of, Accepted, RecordOf, book_of}
use Rattle.merge.proofs.Keys.{key_is}
use Rattle.merge.proofs.Sorted.{Sorted, sorted_table}

-- ---- record j of the bytes b

module _ (b : List ℕ) (j : ℕ) where
  pub byte_in : (k : ℕ) → k < 120 → get_or (record_in b j) k 0 ≡ get_or b (book_length j + k) 0
  unfolding record_in
  byte_in k h = get_or-take 120 (drop (book_length j) b) k 0 h ∙ get_or-drop (book_length j) b k 0

  module _ (h : book_length (j + 1) ≤ length b) where
    pub record_long : length (record_in b j) ≡ 120
    unfolding record_in
    record_long = length-take-le 120 (drop (book_length j) b) (omega (arith, length-drop (book_length j) b))

    -- its word at place o
    pub word_in : (o : ℕ) → o + 4 ≤ 120 → u32_at b (book_length j + o) ≡ u32_at (record_in b j) o
    unfolding u32_at little_endian record_in
    word_in o k = ap le_number (span_within b (book_length j) 120 (book_length j + o) o 4 (omega arith) k refl)

    pub key_in_lem : key_in b j ≡ key_of (record_in b j)
    unfolding key_in key_of
    key_in_lem =
        let p : book_length j ≡ book_length j + 0 = omega arith in
        key_is (record { panel = u32_at b (book_length j); camera = u32_at b (book_length j + 4) })
        (record { panel = u32_at (record_in b j) 0; camera = u32_at (record_in b j) 4 })
        (ap (u32_at b) p ∙ word_in 0 (omega arith)) (word_in 4 (omega arith))

-- ---- all of them

-- the bytes of a record are as a book asks
pub record Formed (r : List ℕ) : Type 0 where
  pub long : length r ≡ 120
  pub grade : u32_at r 8 ≤ 2
  pub zeroed : u32_at r 12 ≡ 0

pub whole : (b : List ℕ) → Accepted b → length b ≡ book_length (count_in b)
whole b A = A.formed.header.all ∙ A.formed.header.total

pub count_few : (b : List ℕ) → AllBelow 256 b → 16 ≤ length b → count_in b < 2 ^ 32
unfolding count_in
count_few b bytes h = u32_below b bytes 0 (omega arith)

pub in_records : (b x : List ℕ) → In x (records b) → RecordOf x b
unfolding records
in_records b x h = in_table (record_in b) (count_in b) x h

pub records_in : (b : List ℕ) (j : ℕ) → j < count_in b → In (record_in b j) (records b)
unfolding records
records_in b j h = table_in (record_in b) (count_in b) j h

pub length_records : (b : List ℕ) → length (records b) ≡ count_in b
unfolding records
length_records b = length_table (record_in b) (count_in b)

module _ (b : List ℕ) (A : Accepted b) where
  pub held : (j : ℕ) → j < count_in b → book_length (j + 1) ≤ length b
  held j h = omega (arith, whole b A)

  pub record_rise : (i j : ℕ) → i < j → j < count_in b → Before (key_of (record_in b i)) (key_of (record_in b j))
  record_rise i j l h =
      subst (λ x. Before x (key_of (record_in b j))) (key_in_lem b i (held i (omega arith)))
      (subst (Before (key_in b i)) (key_in_lem b j (held j h)) (A.rises i j l h))

  pub sorted_records : Sorted (records b)
  unfolding records
  sorted_records = sorted_table (record_in b) (count_in b) record_rise

  record_formed : (j : ℕ) → j < count_in b → grade_in b j ≤ 2 → zero_in b j ≡ 0 → Formed (record_in b j)
  unfolding grade_in zero_in
  record_formed j k g z =
      record {
        long = record_long b j (held j k);
        grade = subst (λ v. v ≤ 2) (word_in b j (held j k) 8 (omega arith)) g;
        zeroed = sym (word_in b j (held j k) 12 (omega arith)) ∙ z;
      }

  pub formed_records : (x : List ℕ) → In x (records b) → Formed x
  formed_records x h = go (in_records b x h)
    where
      go : RecordOf x b → Formed x
      go r = subst Formed r.2 (record_formed r.0 r.1 (A.formed.grades r.0 r.1) (A.formed.zeros r.0 r.1))

-- ---- the book of a list of records

flat_length : (l : List (List ℕ)) → ((x : List ℕ) → In x l → length x ≡ 120) → length (flatten l) ≡ 120 * length l
unfolding flatten
flat_length [] h = refl
flat_length (x ∷ l) h = length-append x (flatten l) ∙ omega (arith, h x (inl refl), flat_length l (λ y k. h y (inr k)))

flat_part : (l : List (List ℕ)) → ((x : List ℕ) → In x l → length x ≡ 120) → (k : ℕ) → k < length l → span (flatten l) (120 * k) 120 ≡ get_or l k []
unfolding flatten
flat_part [] h k r = absurd (omega arith)
flat_part (x ∷ l) h zero r =
    span_left x (flatten l) 0 120 (omega (arith, h x (inl refl)))
    ∙ take_all 120 x (omega (arith, h x (inl refl)))
flat_part (x ∷ l) h (suc k) r =
    span_right x (flatten l) (120 * suc k) (120 * k) 120 (omega (arith, h x (inl refl)))
    ∙ flat_part l (λ y q. h y (inr q)) k (omega arith)

module _ (l : List (List ℕ)) (each : (x : List ℕ) → In x l → length x ≡ 120) where
  pub book_long : length (book_of l) ≡ book_length (length l)
  unfolding book_of
  book_long = length-append (header (length l)) (flatten l) ∙ omega (arith, header_length (length l), flat_length l each)

  pub book_record : (k : ℕ) → k < length l → record_in (book_of l) k ≡ get_or l k []
  unfolding record_in book_of
  book_record k h =
      span_right (header (length l)) (flatten l) (book_length k) (120 * k) 120 (omega (arith, header_length (length l)))
      ∙ flat_part l each k h

  module _ (few : book_length (length l) < 2 ^ 32) where
    pub book_count : count_in (book_of l) ≡ length l
    unfolding book_of
    book_count = count_in_lem (length l) (flatten l) few

    pub book_headed : Headed (book_of l)
    unfolding book_of
    book_headed = headed_in (length l) (flatten l) few (flat_length l each)

-- the book of its own records
pub book_again : (b : List ℕ) → AllBelow 256 b → Headed b → book_of (records b) ≡ b
unfolding book_of records
book_again b bytes w =
    let n = count_in b in
    let long : length b ≡ book_length n = w.all ∙ w.total in
    ap (λ k. header k ++ flatten (table (record_in b) n)) (length_table (record_in b) n)
    ∙ ap (λ l. header n ++ l) (flatten_table (record_in b) n ∙ joined_spans b (record_in b) 16 120 n (λ i h. unfold record_in in refl))
    ∙ ap (λ l. l ++ span b 16 (120 * n)) (header_back b bytes w)
    ∙ span_join b 0 16 16 (120 * n) (omega arith)
    ∙ take_all (16 + 120 * n) b (omega arith)
