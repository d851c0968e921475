-- Columns, and the two ways along an edge.
-- Assumes nothing.
use Prim.Native.Nat.{ℕ, suc, ◌+◌, ◌%◌, ◌≤◌, ◌<◌}
use native.Mathlib.Nat.{suc-mod, mod-eq_of_lt, mod_self, mod-lt}
use native.Mathlib.Numerals.{add-one}
use native.Mathlib.Decide.{dec_lt}
use native.Mathlib.Omega.{arith}
use mathlib.Core.Path.{◌≡◌}
use mathlib.Core.List.{List}
use lib.ListN.{length, get_or-eq_default}
use Rattle.blobs.specs.Patches.{Dark, Touch}
use Rattle.blobs.specs.Patches.Touch.{right, left, under, over}

-- the column of the next pixel, within a row and past its end
pub next_col : (p w : ℕ) → p % w + 1 < w → (p + 1) % w ≡ p % w + 1
next_col p w l =
    let l' : suc (p % w) < w = omega arith in
    rw (add-one, suc-mod p w, mod-eq_of_lt l', add-one)

pub next_row : (p w : ℕ) → 0 < w → w ≤ p % w + 1 → (p + 1) % w ≡ 0
next_row p w o l =
    let e : suc (p % w) ≡ w = omega (arith, mod-lt p o) in
    rw (add-one, suc-mod p w, e, mod_self)

pub left_of : (p q w : ℕ) → 0 < w → p ≡ q + 1 → 0 < p % w → q % w + 1 < w
left_of p q w o e l = go (dec_lt (q % w + 1) w)
  where
    go : Dec (q % w + 1 < w) → q % w + 1 < w
    go (yes y) = y
    go (no n) = let z : (q + 1) % w ≡ 0 = next_row q w o (omega arith) in let z' : p % w ≡ 0 = rw e z in absurd (omega arith)

pub right_of : (p q w : ℕ) → p ≡ q + 1 → q % w + 1 < w → 0 < p % w
right_of p q w e l = let z : p % w ≡ q % w + 1 = rw e (next_col q w l) in omega arith

-- a pixel that is not its row's last is not the mask's last
pub in_row : (p n w : ℕ) → p < n → n % w ≡ 0 → p % w + 1 < w → p + 1 < n
in_row p n w l z r = go (dec_lt (p + 1) n)
  where
    go : Dec (p + 1 < n) → p + 1 < n
    go (yes y) = y
    go (no k) = let e : p + 1 ≡ n = omega arith in let z' : (p + 1) % w ≡ 0 = rw e z in absurd (omega (arith, next_col p w r))

-- a dark pixel is inside
pub dark_inside : (m : List ℕ) (q : ℕ) → Dark m q → q < length m
dark_inside m q d = go (dec_lt q (length m))
  where
    go : Dec (q < length m) → q < length m
    go (yes y) = y
    go (no k) = absurd (d (get_or-eq_default m 0 (omega arith)))

pub touch_back : {w p q : ℕ} → Touch w p q → Touch w q p
touch_back (right e l) = left e l
touch_back (left e l) = right e l
touch_back (under e) = over e
touch_back (over e) = under e
