-- Checksums of numbers (host/comparison/src/bin/captures.rs, host/vectors/page.py, book.py). Assumes nothing.
use Rattle.std.specs.Prelude.{ℕ, ◌+◌, ◌*◌, ◌%◌, List, length, get_or}
use Rattle.base.specs.Loops.{turns}

abbrev pub prime : ℕ
prime = 4294967291

-- "begins as 0 and becomes (SUM · 65599 + number + 1) mod 4294967291 with each byte or number"
unfoldable pub added : ℕ → ℕ → ℕ
added s n = (s * 65599 + n + 1) % prime

abbrev pub add_at : List ℕ → ℕ → ℕ → ℕ
add_at l i s = added s (get_or l i 0)

unfoldable pub sum_of : List ℕ → ℕ
sum_of l = turns (length l) (add_at l) 0
