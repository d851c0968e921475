-- 64-bit words in a list of bytes, and as text. Assumes nothing.
use Rattle.std.specs.Prelude.{ℕ, zero, suc, ◌+◌, ◌*◌, ◌/◌, ◌%◌, cond, List, [], ◌∷◌, ◌++◌, nat_lt, ltb, length}
use Rattle.base.specs.Bytes.{little_endian}

-- word i of b, and 0 where b is too short to hold it
unfoldable pub word_of : List ℕ → ℕ → ℕ
word_of b i = cond (ltb i (length b / 8)) (little_endian 8 b (i * 8)) 0

-- the ASCII code of a digit below 16: `0` to `9`, then `a` to `f`
abbrev pub hex_digit_ascii : ℕ → ℕ
hex_digit_ascii d = cond (nat_lt d 10) (48 + d) (87 + d)

-- the last k digits of n in base b, the most significant first
abbrev pub last_digits : ℕ → ℕ → ℕ → List ℕ
last_digits b zero n = []
last_digits b (suc k) n = last_digits b k (n / b) ++ (hex_digit_ascii (n % b) ∷ [])

-- the 16 hexadecimal digits of w, the most significant first, and a line feed: byte i is the digit of 16 ^ (15 - i)
-- for i below 16, and byte 16 is 10
unfoldable pub hex_line : ℕ → List ℕ
hex_line w = last_digits 16 16 w ++ (10 ∷ [])
