-- Whole numbers as bytes, the lowest first: little-endian. Assumes nothing.
use Rattle.std.specs.Prelude.{ℕ, zero, suc, ◌+◌, ◌*◌, ◌/◌, ◌%◌, ◌<◌, List, [], ◌∷◌, get_or, take, drop}

-- the n lowest bytes of v
unfoldable pub le_bytes : ℕ → ℕ → List ℕ
le_bytes zero v = []
le_bytes (suc n) v = v % 256 ∷ le_bytes n (v / 256)

-- the number that bytes stand for
unfoldable pub le_number : List ℕ → ℕ
le_number [] = 0
le_number (c ∷ l) = c + 256 * le_number l

-- .. that the n bytes of b from place p on stand for
unfoldable pub little_endian : ℕ → List ℕ → ℕ → ℕ
little_endian n b p = le_number (take n (drop p b))

-- every entry is below n: 256 for bytes, 2 ^ 32 for u32, 2 ^ 64 for u64
abbrev pub AllBelow : ℕ → List ℕ → Type 0
AllBelow n l = (i : ℕ) → get_or l i 0 < n
