-- What the functions behind `read_book` and `write_book` ask. Assumes nothing.
use Rattle.std.specs.Prelude.{ℕ, ◌*◌, ◌≤◌, ◌≡◌, length, List}
use Rattle.book.specs.Layout.{book_length, count_in}

-- [18.7, 18.9] a book that is not refused, for lists of these lengths
pub record Readable (b : List ℕ) (heads numbers : ℕ) : Type 0 where
  pub whole : length b ≡ book_length (count_in b)
  pub heads_held : 3 * count_in b ≤ heads
  pub numbers_held : 13 * count_in b ≤ numbers

-- [18.7, 18.9] records that are not refused, for an area of `room` bytes
pub record Writable (heads numbers count room : ℕ) : Type 0 where
  pub heads_held : 3 * count ≤ heads
  pub numbers_held : 13 * count ≤ numbers
  pub room_held : book_length count ≤ room
  pub total_held : book_length count ≤ 4294967295
