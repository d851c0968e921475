-- What `isqrt` and `nearest_root` say, by squares. Assumes nothing.
use Rattle.std.proofs.Common.{◌≡◌, ℕ, zero, suc, ◌+◌, ◌-◌, ◌*◌, ◌/◌, ◌^◌, ◌<◌, ◌≤◌, Bool, true, false, cond, not, T, ltb, leb, sym, refl, ap, ◌∙◌, subst, lt_of_lt_of_le, add-mul, mul-le-mul, le_antisymm, pow-suc, lt_of_not-le, mul-add, not-le_of_lt, arith, ltb→lt, leb→le, nltb→le}
use native.Mathlib.Nat.{mul-mul-mul_comm}
use lib.Dec.{nleb→lt}
use Rattle.float.specs.Root.{isqrt, nearest_root}

-- (a * 2) ^ 2 and (a * 2 + 1) ^ 2
pub sq_even : (a : ℕ) → a * 2 * (a * 2) ≡ a * a * 4
sq_even a = mul-mul-mul_comm a 2 a 2

pub sq_next : (a : ℕ) → (a + 1) * (a + 1) ≡ a * a + a * 2 + 1
sq_next a =
    let p : (a + 1) * (a + 1) ≡ a * (a + 1) + 1 * (a + 1) = add-mul a 1 (a + 1) in
    let q : a * (a + 1) ≡ a * a + a * 1 = mul-add a a 1 in
    omega arith

pub sq_mono : {a b : ℕ} → a ≤ b → a * a ≤ b * b
sq_mono h = mul-le-mul h h

abbrev pub IsRoot : ℕ → ℕ → Type 0
IsRoot n r = (r * r ≤ n) × (n < (r + 1) * (r + 1))

pub isqrt_is : (d n : ℕ) → n < 4 ^ d → IsRoot n (isqrt d n)
unfolding isqrt
isqrt_is zero n h = (omega arith, omega arith)
isqrt_is (suc d) n h =
    let s = isqrt d (n / 4) in
    let i : IsRoot (n / 4) s = isqrt_is d (n / 4) (quarter n (4 ^ d) (lt_of_lt_of_le h (le_of n d))) in
    go s i.0 i.1 (leb ((s * 2 + 1) * (s * 2 + 1)) n) (leb→le ((s * 2 + 1) * (s * 2 + 1)) n) (nleb→lt ((s * 2 + 1) * (s * 2 + 1)) n)
  where
    le_of : (n d : ℕ) → 4 ^ suc d ≤ 4 ^ d * 4
    le_of n d = let e : 4 ^ suc d ≡ 4 ^ d * 4 = pow-suc 4 d in omega arith

    quarter : (n p : ℕ) → n < p * 4 → n / 4 < p
    quarter n p h = omega arith

    go : (s : ℕ) → s * s ≤ n / 4 → n / 4 < (s + 1) * (s + 1) → (b : Bool) → (T b → (s * 2 + 1) * (s * 2 + 1) ≤ n) → (T (not b)
        → n < (s * 2 + 1) * (s * 2 + 1)) → IsRoot n (cond b (s * 2 + 1) (s * 2))
    go s lo hi true h k =
        let a : (s + 1) * (s + 1) ≡ s * s + s * 2 + 1 = sq_next s in
        let b : (s * 2 + 1 + 1) * (s * 2 + 1 + 1) ≡ (s * 2 + 1) * (s * 2 + 1) + (s * 2 + 1) * 2 + 1 = sq_next (s * 2 + 1) in
        let c : (s * 2 + 1) * (s * 2 + 1) ≡ s * 2 * (s * 2) + s * 2 * 2 + 1 = sq_next (s * 2) in
        let d : s * 2 * (s * 2) ≡ s * s * 4 = sq_even s in
        (h tt, omega arith)
    go s lo hi false h k =
        let d : s * 2 * (s * 2) ≡ s * s * 4 = sq_even s in
        (omega arith, k tt)

pub root_unique : (n r s : ℕ) → IsRoot n r → IsRoot n s → r ≡ s
root_unique n r s a b = le_antisymm (below r s a.0 b.1) (below s r b.0 a.1)
  where
    below : (r s : ℕ) → r * r ≤ n → n < (s + 1) * (s + 1) → r ≤ s
    below r s x y =
        let l : r < s + 1 = lt_of_not-le (λ (g : s + 1 ≤ r). not-le_of_lt (lt_of_lt_of_le y (sq_mono g)) x) in
        omega arith

-- r and what is left, of a number below 4 ^ 53
nearest_unfold : (n : ℕ) → nearest_root n ≡ cond (ltb (isqrt 53 n) (n - isqrt 53 n * isqrt 53 n)) (isqrt 53 n + 1) (isqrt 53 n)
unfolding nearest_root
nearest_unfold n = refl

pub nearest_is : (n r e : ℕ) → n < 4 ^ 53 → n ≡ r * r + e → e ≤ r * 2 → nearest_root n ≡ cond (ltb r e) (r + 1) r
nearest_is n r e h i j =
    let q : (r + 1) * (r + 1) ≡ r * r + r * 2 + 1 = sq_next r in
    let u : isqrt 53 n ≡ r = root_unique n (isqrt 53 n) r (isqrt_is 53 n h) (omega arith, omega arith) in
    let w : n - r * r ≡ e = omega arith in
    nearest_unfold n ∙ ap (λ (z : ℕ). cond (ltb z (n - z * z)) (z + 1) z) u ∙ ap (λ (z : ℕ). cond (ltb r z) (r + 1) r) w

-- the nearest whole number q to √n: (q - 1 / 2) ^ 2 < n < (q + 1 / 2) ^ 2
pub record Nearest (n q : ℕ) : Type 0 where
  pub over : n * 4 < (q * 2 + 1) * (q * 2 + 1)
  pub under : (q * 2 - 1) * (q * 2 - 1) < n * 4

pub nearest_root_lem : (n : ℕ) → 0 < n → n < 4 ^ 53 → Nearest n (nearest_root n)
nearest_root_lem n p h =
    let r = isqrt 53 n in
    let i : IsRoot n r = isqrt_is 53 n h in
    subst (Nearest n) (sym (nearest_unfold n)) (go r i.0 i.1 (ltb r (n - r * r)) (ltb→lt r (n - r * r)) (nltb→le r (n - r * r)))
  where
    go : (r : ℕ) → r * r ≤ n → n < (r + 1) * (r + 1) → (b : Bool) → (T b → r < n - r * r) → (T (not b) → n - r * r ≤ r) → Nearest n (cond b (r + 1) r)
    go r lo hi true x y =
        let l : r < n - r * r = x tt in
        let a : (r + 1) * (r + 1) ≡ r * r + r * 2 + 1 = sq_next r in
        let b : (r * 2 + 1) * (r * 2 + 1) ≡ r * 2 * (r * 2) + r * 2 * 2 + 1 = sq_next (r * 2) in
        let c : r * 2 * (r * 2) ≡ r * r * 4 = sq_even r in
        let d : ((r + 1) * 2 + 1) * ((r + 1) * 2 + 1) ≡ (r + 1) * 2 * ((r + 1) * 2) + (r + 1) * 2 * 2 + 1 = sq_next ((r + 1) * 2) in
        let f : (r + 1) * 2 * ((r + 1) * 2) ≡ (r + 1) * (r + 1) * 4 = sq_even (r + 1) in
        let g : (r + 1) * 2 - 1 ≡ r * 2 + 1 = omega arith in
        record { over = omega arith; under = subst (λ (z : ℕ). z * z < n * 4) (sym g) (omega arith) }
    go r lo hi false x y =
        let l : n - r * r ≤ r = y tt in
        let b : (r * 2 + 1) * (r * 2 + 1) ≡ r * 2 * (r * 2) + r * 2 * 2 + 1 = sq_next (r * 2) in
        let c : r * 2 * (r * 2) ≡ r * r * 4 = sq_even r in
        record { over = omega arith; under = less r l lo }
      where
        less : (r : ℕ) → n - r * r ≤ r → r * r ≤ n → (r * 2 - 1) * (r * 2 - 1) < n * 4
        less zero l lo = omega arith
        less (suc s) l lo =
            let r = suc s in
            let a : (r * 2 - 1) * (r * 2 - 1) ≤ (s * 2 + 1) * (s * 2 + 1) = sq_mono (omega arith) in
            let b : (s * 2 + 1) * (s * 2 + 1) ≡ s * 2 * (s * 2) + s * 2 * 2 + 1 = sq_next (s * 2) in
            let c : s * 2 * (s * 2) ≡ s * s * 4 = sq_even s in
            let d : (s + 1) * (s + 1) ≡ s * s + s * 2 + 1 = sq_next s in
            let e : suc s * suc s ≡ (s + 1) * (s + 1) = ap (λ (z : ℕ). z * z) (omega arith) in
            omega arith
