-- What a call is refused for, test by test, from the lengths as the code divides them. Assumes nothing.
use borrow.Author.Tests.{lt-ltb, le-ltb, ltb-false, eqb-true, not-false}
use native.Mathlib.Omega.{arith}
use mathlib.Core.Path.{◌≡◌, sym, ap, ◌∙◌}
use mathlib.Core.Bool.{Bool, true, false, not, ◌||◌}
use mathlib.Core.List.{List, [], ◌∷◌}
use Prim.Native.Nat.{ℕ, ◌+◌, ◌-◌, ◌*◌, ◌/◌, ◌≤◌, ◌<◌}
use lib.Dec.{ltb, eqb}
use lib.ListN.{length}
use Rattle.std.specs.Prelude.{Result, Ok, Err}
use Rattle.base.proofs.Tests.{or_first, or_second, or_neither, or_left, or_right}
use Rattle.frame.specs.Refusals.{check, answer_for}
use Rattle.frame.specs.declared.refusals.Refusal.{Refusal}
use Rattle.frame.specs.declared.refusals.Refusal.TheVariants.{AreaShort, Malformed, KeysFall}
use Rattle.frame.proofs.Given.{answer_first, answer_next, answer_none}
use Rattle.book.specs.Layout.{book_length, u32_at, count_in, key_in, key_at}
use Rattle.book.specs.Meaning.{Headed}
use Rattle.book.specs.Promises.{keys_rise, header_wrong, records_held, grades_held, book_tests, read_tests, write_tests}
use Rattle.book.proofs.Tested.{accepted_before}

-- ---- the header

-- a header of which the four words are read
pub header_is : (b : List ℕ) (n o l t : ℕ) → 16 ≤ length b → n ≡ u32_at b 0 → o ≡ u32_at b 4 → l ≡ u32_at b 8 → t ≡ u32_at b 12
    → (not (eqb o 16) || not (eqb l 120) || not (eqb t (16 + 120 * n)) || not (eqb (length b) t)) ≡ header_wrong b
unfolding header_wrong count_in
header_is b n o l t h en eo el et = rw (le-ltb (length b) 16 h) cc

-- what a right header says
same : (x y : ℕ) → not (eqb x y) ≡ false → x ≡ y
same x y e = eqb-true x y (not-false (eqb x y) e)

pub header_right : (b : List ℕ) → header_wrong b ≡ false → Headed b
unfolding header_wrong
header_right b e =
    let p = not (eqb (u32_at b 4) 16) in
    let q = not (eqb (u32_at b 8) 120) in
    let r = not (eqb (u32_at b 12) (book_length (count_in b))) in
    let s = not (eqb (length b) (u32_at b 12)) in
    let words : (p || q || r || s) ≡ false = or_right (ltb (length b) 16) (p || q || r || s) e in
    let three : (p || q || r) ≡ false = or_left (p || q || r) s words in
    let two : (p || q) ≡ false = or_left (p || q) r three in
    record {
      headed = ltb-false (length b) 16 (or_left (ltb (length b) 16) (p || q || r || s) e);
      offset = same (u32_at b 4) 16 (or_left p q two);
      each = same (u32_at b 8) 120 (or_right p q two);
      total = same (u32_at b 12) (book_length (count_in b)) (or_right (p || q) r three);
      all = same (length b) (u32_at b 12) (or_right (p || q || r) s words);
    }

-- ---- a book

module _ (b : List ℕ) where
  -- what 14 is given for, and 15
  abbrev pub bad : Bool
  bad = header_wrong b || not (records_held b (count_in b))

  abbrev pub falls : Bool
  falls = not (keys_rise (key_in b) (count_in b))

  pub header_gives : header_wrong b ≡ true → Err Malformed ≡ answer_for (book_tests b) (count_in b)
  unfolding book_tests
  header_gives e = answer_first (count_in b) Malformed bad (check KeysFall falls ∷ []) (or_first (header_wrong b) (not (records_held b (count_in b))) e)

  module _ (h : header_wrong b ≡ false) where
    pub whole : length b ≡ book_length (count_in b)
    whole = (header_right b h).all ∙ (header_right b h).total

    pub count_is : (length b - 16) / 120 ≡ count_in b
    count_is = omega (arith, whole)

    pub records_give : records_held b (count_in b) ≡ false → Err Malformed ≡ answer_for (book_tests b) (count_in b)
    unfolding book_tests
    records_give e = answer_first (count_in b) Malformed bad (check KeysFall falls ∷ []) (or_second (header_wrong b) (not (records_held b (count_in b))) (ap not e))

    module _ (r : records_held b (count_in b) ≡ true) where
      formed : {x : Result ℕ Refusal} → x ≡ answer_for (check KeysFall falls ∷ []) (count_in b) → x ≡ answer_for (book_tests b) (count_in b)
      unfolding book_tests
      formed e = answer_next (count_in b) Malformed bad (check KeysFall falls ∷ []) (or_neither (header_wrong b) (not (records_held b (count_in b))) h (ap not r)) e

      pub keys_give : keys_rise (key_in b) (count_in b) ≡ false → Err KeysFall ≡ answer_for (book_tests b) (count_in b)
      keys_give e = formed (answer_first (count_in b) KeysFall falls [] (ap not e))

      pub none_gives : keys_rise (key_in b) (count_in b) ≡ true → Ok (count_in b) ≡ answer_for (book_tests b) (count_in b)
      none_gives e = formed (answer_next (count_in b) KeysFall falls [] (ap not e) (answer_none (count_in b)))

-- ---- a call that reads

module _ (b heads numbers : List ℕ) where
  abbrev heads_short : Bool
  heads_short = ltb (length heads) (3 * count_in b)

  abbrev numbers_short : Bool
  numbers_short = ltb (length numbers) (13 * count_in b)

  module _ (n : ℕ) (e : answer_for (book_tests b) (count_in b) ≡ Ok n) where
    past : {x : Result ℕ Refusal} → x ≡ answer_for (check AreaShort (heads_short || numbers_short) ∷ []) (count_in b) → x ≡ answer_for (read_tests b heads numbers) (count_in b)
    unfolding read_tests
    past h = h ∙ sym (accepted_before (book_tests b) (check AreaShort (heads_short || numbers_short) ∷ []) (count_in b) (count_in b) e)

    pub read_heads_give : length heads / 3 < count_in b → Err AreaShort ≡ answer_for (read_tests b heads numbers) (count_in b)
    read_heads_give h = past (answer_first (count_in b) AreaShort (heads_short || numbers_short) [] (or_first heads_short numbers_short (lt-ltb (length heads) (3 * count_in b) (omega arith))))

    pub read_numbers_give : length numbers / 13 < count_in b → Err AreaShort ≡ answer_for (read_tests b heads numbers) (count_in b)
    read_numbers_give h = past (answer_first (count_in b) AreaShort (heads_short || numbers_short) [] (or_second heads_short numbers_short (lt-ltb (length numbers) (13 * count_in b) (omega arith))))

    pub read_none_gives : count_in b ≤ length heads / 3 → count_in b ≤ length numbers / 13 → Ok (count_in b) ≡ answer_for (read_tests b heads numbers) (count_in b)
    read_none_gives h k =
        past (answer_next (count_in b) AreaShort (heads_short || numbers_short) [] (or_neither heads_short numbers_short
        (le-ltb (length heads) (3 * count_in b) (omega arith)) (le-ltb (length numbers) (13 * count_in b) (omega arith))) (answer_none (count_in b)))

-- ---- a call that writes

-- lists and area are long enough, as the code tests it
pub record Lent (heads numbers : List ℕ) (count : ℕ) (book : List ℕ) : Type 0 where
  pub heads_held : count ≤ length heads / 3
  pub numbers_held : count ≤ length numbers / 13
  pub headed : 16 ≤ length book
  pub book_held : count ≤ (length book - 16) / 120

module _ {A : Type 0} (v : A) (heads numbers : List ℕ) (count : ℕ) (book : List ℕ) where
  abbrev short_heads : Bool
  short_heads = ltb (length heads) (3 * count)

  abbrev short_numbers : Bool
  short_numbers = ltb (length numbers) (13 * count)

  abbrev short_book : Bool
  short_book = ltb (length book) (book_length count)

  abbrev short : Bool
  short = short_heads || short_numbers || short_book

  abbrev long : Bool
  long = ltb 4294967295 (book_length count)

  abbrev wrong : Bool
  wrong = long || not (grades_held heads count)

  abbrev unsorted : Bool
  unsorted = not (keys_rise (key_at heads) count)

  short_gives : short ≡ true → Err AreaShort ≡ answer_for (write_tests heads numbers count book) v
  unfolding write_tests
  short_gives e = answer_first v AreaShort short (check Malformed wrong ∷ check KeysFall unsorted ∷ []) e

  pub heads_give : length heads / 3 < count → Err AreaShort ≡ answer_for (write_tests heads numbers count book) v
  heads_give h = short_gives (or_first (short_heads || short_numbers) short_book (or_first short_heads short_numbers (lt-ltb (length heads) (3 * count) (omega arith))))

  pub numbers_give : length numbers / 13 < count → Err AreaShort ≡ answer_for (write_tests heads numbers count book) v
  numbers_give h = short_gives (or_first (short_heads || short_numbers) short_book (or_second short_heads short_numbers (lt-ltb (length numbers) (13 * count) (omega arith))))

  -- shorter than the header, or than header and records
  pub book_gives : length book < book_length count → Err AreaShort ≡ answer_for (write_tests heads numbers count book) v
  book_gives h = short_gives (or_second (short_heads || short_numbers) short_book (lt-ltb (length book) (book_length count) h))

  module _ (l : Lent heads numbers count book) where
    held : {x : Result A Refusal} → x ≡ answer_for (check Malformed wrong ∷ check KeysFall unsorted ∷ []) v → x ≡ answer_for (write_tests heads numbers count book) v
    unfolding write_tests
    held e =
        answer_next v AreaShort short (check Malformed wrong ∷ check KeysFall unsorted ∷ [])
        (or_neither (short_heads || short_numbers) short_book
        (or_neither short_heads short_numbers
        (le-ltb (length heads) (3 * count) (omega (arith, l.heads_held)))
        (le-ltb (length numbers) (13 * count) (omega (arith, l.numbers_held))))
        (le-ltb (length book) (book_length count) (omega (arith, l.headed, l.book_held)))) e

    pub total_gives : 35791393 < count → Err Malformed ≡ answer_for (write_tests heads numbers count book) v
    total_gives m = held (answer_first v Malformed wrong (check KeysFall unsorted ∷ []) (or_first long (not (grades_held heads count)) (lt-ltb 4294967295 (book_length count) (omega arith))))

    pub grades_give : grades_held heads count ≡ false → Err Malformed ≡ answer_for (write_tests heads numbers count book) v
    grades_give e = held (answer_first v Malformed wrong (check KeysFall unsorted ∷ []) (or_second long (not (grades_held heads count)) (ap not e)))

    module _ (m : count ≤ 35791393) (g : grades_held heads count ≡ true) where
      graded : {x : Result A Refusal} → x ≡ answer_for (check KeysFall unsorted ∷ []) v → x ≡ answer_for (write_tests heads numbers count book) v
      graded e =
          held (answer_next v Malformed wrong (check KeysFall unsorted ∷ [])
          (or_neither long (not (grades_held heads count)) (le-ltb 4294967295 (book_length count) (omega arith)) (ap not g)) e)

      pub unsorted_gives : keys_rise (key_at heads) count ≡ false → Err KeysFall ≡ answer_for (write_tests heads numbers count book) v
      unsorted_gives e = graded (answer_first v KeysFall unsorted [] (ap not e))

      pub sorted_gives : keys_rise (key_at heads) count ≡ true → Ok v ≡ answer_for (write_tests heads numbers count book) v
      sorted_gives e = graded (answer_next v KeysFall unsorted [] (ap not e) (answer_none v))
