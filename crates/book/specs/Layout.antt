-- A book's bytes (requirements, 18.2 to 18.4), and the two lists that hold its records. Assumes nothing.
use Rattle.std.specs.Prelude.{ℕ, ◌+◌, ◌*◌, ◌/◌, ◌%◌, List, ◌++◌, get_or, take, drop}
use Rattle.std.specs.Float.{nan, binary64}
use Rattle.std.specs.Float.Ieee.{of_bits, to_bits}
use Rattle.base.specs.Bytes.{le_bytes, little_endian}
use Rattle.base.specs.Loops.{joined, table}
use Rattle.fit.specs.Numbers.{grade_number, fit_numbers, fit_of}
use Rattle.fit.specs.declared.GeometryFit.{GeometryFit}
use Rattle.fit.specs.declared.Grade.{Grade}
use Rattle.book.specs.declared.FitRecord.{FitRecord}
use Rattle.book.specs.declared.keys.Key.{Key}

-- ---- written

-- [18.3] 16 + 120 times the count: the length of a book of n records, and so where record n of a longer one starts
abbrev pub book_length : ℕ → ℕ
book_length n = 16 + 120 * n

-- [18.3] "the header is four u32: record count, offset of the first record (16), record length (120), total length"
unfoldable pub header : ℕ → List ℕ
header n = le_bytes 4 n ++ le_bytes 4 16 ++ le_bytes 4 120 ++ le_bytes 4 (book_length n)

-- [18.2] number i of a list, in `width` bytes, the lowest first
abbrev pub number_bytes : ℕ → List ℕ → ℕ → List ℕ
number_bytes width numbers i = le_bytes width (get_or numbers i 0)

-- [18.4] "a record is panel u32, camera u32, grade u32, a zero u32, then thirteen f64", these by their bits
unfoldable pub pattern_bytes : List ℕ → ℕ → List ℕ
pattern_bytes = number_bytes 8

unfoldable pub record_bytes : FitRecord → List ℕ
record_bytes r =
    le_bytes 4 r.panel
    ++ le_bytes 4 r.camera
    ++ le_bytes 4 r.grade
    ++ le_bytes 4 0
    ++ joined (pattern_bytes r.numbers) 13

-- [18.3] the book of the records f 0, f 1, .. f (n - 1)
unfoldable pub book_bytes : (ℕ → FitRecord) → ℕ → List ℕ
book_bytes f n = header n ++ joined (λ j. record_bytes (f j)) n

-- ---- read

-- [18.2] the u32 at place p, and the u64
unfoldable pub u32_at : List ℕ → ℕ → ℕ
u32_at b p = little_endian 4 b p

unfoldable pub u64_at : List ℕ → ℕ → ℕ
u64_at b p = little_endian 8 b p

-- [18.3] the record count of a header
unfoldable pub count_in : List ℕ → ℕ
count_in b = u32_at b 0

-- [18.4] key, grade and zero field of record j
unfoldable pub key_in : List ℕ → ℕ → Key
key_in b j = record { panel = u32_at b (book_length j); camera = u32_at b (book_length j + 4) }

unfoldable pub grade_in : List ℕ → ℕ → ℕ
grade_in b j = u32_at b (book_length j + 8)

unfoldable pub zero_in : List ℕ → ℕ → ℕ
zero_in b j = u32_at b (book_length j + 12)

-- ---- the two lists that a reader fills and a writer takes: panel, camera and grade of each record, and its thirteen
-- patterns

-- [18.4] entry i of the heads, and of the numbers, of a book that is read
unfoldable pub head_entry : List ℕ → ℕ → ℕ
head_entry b i = u32_at b (book_length (i / 3) + 4 * (i % 3))

unfoldable pub number_entry : List ℕ → ℕ → ℕ
number_entry b i = u64_at b (book_length (i / 13) + 16 + 8 * (i % 13))

-- [18.4] key and grade of record j of the lists, and the whole record
unfoldable pub key_at : List ℕ → ℕ → Key
key_at heads j = record { panel = get_or heads (3 * j) 0; camera = get_or heads (3 * j + 1) 0 }

unfoldable pub grade_at : List ℕ → ℕ → ℕ
grade_at heads j = get_or heads (3 * j + 2) 0

unfoldable pub record_at : List ℕ → List ℕ → ℕ → FitRecord
record_at heads numbers j =
    record {
      panel = get_or heads (3 * j) 0;
      camera = get_or heads (3 * j + 1) 0;
      grade = get_or heads (3 * j + 2) 0;
      numbers = take 13 (drop (13 * j) numbers);
    }

-- ---- fits

-- [18.1, 18.4] the record that keeps a fit: "grade (0 scored, 1 outside, 2 too few)", "nine matrix entries by rows, k,
-- cx, cy, norm"
unfoldable pub record_of : ℕ → ℕ → Grade → GeometryFit → FitRecord
record_of panel camera grade fit =
    record {
      panel = panel;
      camera = camera;
      grade = grade_number grade;
      numbers = table (λ i. to_bits binary64 (get_or (fit_numbers fit) i nan)) 13;
    }

-- .. and the fit that a record keeps
unfoldable pub fit_in : FitRecord → GeometryFit
fit_in r = fit_of (table (λ i. of_bits binary64 (get_or r.numbers i 0)) 13)
