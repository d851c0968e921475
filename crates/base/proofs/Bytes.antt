-- Numbers as bytes, the lowest first. Assumes nothing.
use mathlib.Core.Path.{◌≡◌, refl, sym, ap, subst, ◌∙◌}
use mathlib.Core.List.{List, [], ◌∷◌, ◌++◌}
use Prim.Native.Nat.{ℕ, zero, suc, ◌+◌, ◌-◌, ◌*◌, ◌/◌, ◌%◌, ◌^◌, ◌≤◌, ◌<◌}
use native.Mathlib.Nat.{pow-suc, pow-le-pow_right}
use native.Mathlib.Numerals.{add-one}
use native.Mathlib.Omega.{arith}
use lib.ListN.{length, get_or, take, drop, set, length-drop}
use lib.Seq.{drop-cons, get_or-drop, length-take-le}
use Rattle.base.proofs.Over.{over, over_set, over_whole}
use Rattle.base.proofs.Spans.{span}
use Rattle.base.specs.Bytes.{AllBelow, le_bytes, le_number, little_endian}

-- ---- written

pub length_le_bytes : (n v : ℕ) → length (le_bytes n v) ≡ n
unfolding le_bytes
length_le_bytes zero v = refl
length_le_bytes (suc n) v = ap suc (length_le_bytes n (v / 256))

-- what is left of v past its n lowest bytes
abbrev pub past : ℕ → ℕ → ℕ
past zero v = v
past (suc n) v = past n v / 256

past_first : (n v : ℕ) → past n (v / 256) ≡ past (suc n) v
past_first zero v = refl
past_first (suc n) v = ap (λ k. k / 256) (past_first n v)

-- one byte more
le_bytes_more : (n v : ℕ) → le_bytes (suc n) v ≡ le_bytes n v ++ (past n v % 256 ∷ [])
unfolding le_bytes
le_bytes_more zero v = refl
le_bytes_more (suc n) v =
    ap (λ l. v % 256 ∷ l) (le_bytes_more n (v / 256) ∙ ap (λ k. le_bytes n (v / 256) ++ (k % 256 ∷ [])) (past_first n v))

-- a loop's first head, a turn, and the end
pub le_bytes_begin : (v : ℕ) (l : List ℕ) → l ≡ over (le_bytes 0 v) l
unfolding le_bytes
le_bytes_begin v l = refl

pub le_bytes_step : (v k rest : ℕ) (b l : List ℕ) → b ≡ over (le_bytes k v) l → rest ≡ past k v → k < length l → set b k (rest % 256) ≡ over (le_bytes (k + 1) v) l
le_bytes_step v k rest b l e p h =
    ap (λ x. set b k (x % 256)) p
    ∙ over_set (le_bytes k v) l b k (past k v % 256) e (sym (length_le_bytes k v)) h
    ∙ ap (λ t. over t l) (sym (le_bytes_more k v) ∙ ap (λ i. le_bytes i v) (sym (add-one k)))

pub past_step : (v k rest : ℕ) → rest ≡ past k v → rest / 256 ≡ past (k + 1) v
past_step v k rest e = ap (λ r. r / 256) e ∙ ap (λ i. past i v) (sym (add-one k))

pub le_bytes_end : (v k : ℕ) (b l : List ℕ) → b ≡ over (le_bytes k v) l → k ≡ length l → b ≡ le_bytes (length l) v
le_bytes_end v k b l e h = over_whole (le_bytes k v) l b e (length_le_bytes k v ∙ h) ∙ ap (λ i. le_bytes i v) h

-- ---- read

bytes_tail : (c : ℕ) (l : List ℕ) → AllBelow 256 (c ∷ l) → AllBelow 256 l
bytes_tail c l h i = h (suc i)

pub bytes_take : (n : ℕ) (l : List ℕ) → AllBelow 256 l → AllBelow 256 (take n l)
bytes_take zero l h i = omega arith
bytes_take (suc n) [] h i = omega arith
bytes_take (suc n) (c ∷ l) h zero = h zero
bytes_take (suc n) (c ∷ l) h (suc i) = bytes_take n l (bytes_tail c l h) i

le_number_below : (l : List ℕ) → AllBelow 256 l → le_number l < 256 ^ length l
unfolding le_number
le_number_below [] h = omega arith
le_number_below (c ∷ l) h =
    let a : c < 256 = h 0 in
    let b : le_number l < 256 ^ length l = le_number_below l (bytes_tail c l h) in
    omega (arith, pow-suc 256 (length l))

-- ---- `little_endian`: from the highest byte down

little_endian_none : (b : List ℕ) (p : ℕ) → 0 ≡ little_endian 0 b p
unfolding little_endian le_number
little_endian_none b p = refl

pub little_endian_begin : (b : List ℕ) (n p : ℕ) → 0 ≡ little_endian (n - n) b p
little_endian_begin b n p = let e : 0 ≡ n - n = omega arith in little_endian_none b p ∙ ap (λ m. little_endian m b p) e

pub little_endian_end : (b : List ℕ) (n p k v : ℕ) → k ≡ 0 → (v ≡ little_endian (n - k) b (p + k)) × (v < 256 ^ (n - k)) → (v ≡ little_endian n b p) × (v < 256 ^ n)
little_endian_end b n p k v e h =
    let m : n - k ≡ n = omega arith in
    let q : p + k ≡ p = omega arith in
    (h.0 ∙ ap (λ i. little_endian i b (p + k)) m ∙ ap (little_endian n b) q, subst (λ i. v < 256 ^ i) m h.1)

-- one byte before
little_endian_more : (n : ℕ) (b : List ℕ) (p : ℕ) → p < length b → little_endian (suc n) b p ≡ get_or b p 0 + 256 * little_endian n b (suc p)
unfolding little_endian le_number
little_endian_more n b p h = ap (λ l. le_number (take (suc n) l)) (drop-cons b p 0 h)

module _ (b : List ℕ) (n p k v : ℕ) (some : 0 < k) (few : k ≤ n) (held : p + n ≤ length b) where
  next : n - (k - 1) ≡ suc (n - k)
  next = omega arith

  pub little_endian_step : v ≡ little_endian (n - k) b (p + k) → v * 256 + get_or b (p + (k - 1)) 0 ≡ little_endian (n - (k - 1)) b (p + (k - 1))
  little_endian_step e =
      let q : p + k ≡ suc (p + (k - 1)) = omega arith in
      let d : v ≡ little_endian (n - k) b (suc (p + (k - 1))) = e ∙ ap (little_endian (n - k) b) q in
      let m = little_endian_more (n - k) b (p + (k - 1)) (omega arith) in
      omega (arith, d, m, ap (λ i. little_endian i b (p + (k - 1))) next)

  pub below_step : v < 256 ^ (n - k) → get_or b (p + (k - 1)) 0 < 256 → v * 256 + get_or b (p + (k - 1)) 0 < 256 ^ (n - (k - 1))
  below_step h c = omega (arith, ap (λ i. 256 ^ i) next, pow-suc 256 (n - k))

-- seven bytes leave room for one more
pub below_room : (v m : ℕ) → v < 256 ^ m → m ≤ 7 → v < 2 ^ 56
below_room v m h l = omega (arith, pow-le-pow_right {n = 256} (omega arith) {i = m} {j = 7} l)

-- ---- what is written reads back, and what was read is written back

le_number_bytes : (n v : ℕ) → v < 256 ^ n → le_number (le_bytes n v) ≡ v
unfolding le_number le_bytes
le_number_bytes zero v h = omega arith
le_number_bytes (suc n) v h =
    let e : le_number (le_bytes n (v / 256)) ≡ v / 256 = le_number_bytes n (v / 256) (omega (arith, pow-suc 256 n)) in
    omega arith

le_bytes_number : (l : List ℕ) → AllBelow 256 l → le_bytes (length l) (le_number l) ≡ l
unfolding le_number le_bytes
le_bytes_number [] h = refl
le_bytes_number (c ∷ l) h =
    let a : c < 256 = h 0 in
    let r : (c + 256 * le_number l) % 256 ≡ c = omega arith in
    let q : (c + 256 * le_number l) / 256 ≡ le_number l = omega arith in
    ap (λ x. x ∷ le_bytes (length l) ((c + 256 * le_number l) / 256)) r
    ∙ ap (λ x. c ∷ le_bytes (length l) x) q
    ∙ ap (λ x. c ∷ x) (le_bytes_number l (bytes_tail c l h))

pub reads_written : (n v p : ℕ) (b : List ℕ) → v < 256 ^ n → span b p n ≡ le_bytes n v → little_endian n b p ≡ v
unfolding little_endian
reads_written n v p b h e = ap le_number e ∙ le_number_bytes n v h

module _ (n p : ℕ) (b : List ℕ) (h : AllBelow 256 b) (r : p + n ≤ length b) where
  part_long : length (span b p n) ≡ n
  part_long = length-take-le n (drop p b) (omega (arith, length-drop p b))

  part_bytes : AllBelow 256 (span b p n)
  part_bytes = bytes_take n (drop p b) (λ i. subst (λ c. c < 256) (sym (get_or-drop p b i 0)) (h (p + i)))

  pub writes_read : le_bytes n (little_endian n b p) ≡ span b p n
  unfolding little_endian
  writes_read = ap (λ m. le_bytes m (le_number (span b p n))) (sym part_long) ∙ le_bytes_number (span b p n) part_bytes

  pub little_endian_below : little_endian n b p < 256 ^ n
  unfolding little_endian
  little_endian_below = subst (λ m. le_number (span b p n) < 256 ^ m) part_long (le_number_below (span b p n) part_bytes)
