-- Sums over the pixels and over those waiting, after a store.
-- Assumes nothing.
use Prim.Native.Nat.{ℕ, zero, suc, ◌+◌, ◌*◌, ◌-◌, ◌≤◌, ◌<◌}
use native.Mathlib.Nat.{mul-one, one-mul, zero-mul, mul-le-mul, suc-mul, add-mul}
use native.Mathlib.Numerals.{add-one}
use native.Mathlib.Decide.{ℕ_discrete}
use native.Mathlib.Omega.{arith}
use mathlib.Core.Path.{◌≡◌, refl, sym, ap, ap₂, ◌∙◌}
use mathlib.Core.List.{List, [], ◌∷◌}
use mathlib.Core.Logic.{◌⊎◌, inl, inr, ◌≢◌, ⊎_elim}
use lib.ListN.{length, get_or, set}
use lib.Seq.{get_or-set_same, get_or-set_other}
use Rattle.blobs.specs.Patches.{total, one}
use Rattle.blobs.specs.Ready.{at}

-- a sum depends on what stands below n alone
pub total_same : (f : ℕ → ℕ) (c d : ℕ → ℕ) (n : ℕ) → ((q : ℕ) → q < n → c q ≡ d q) → total f c n ≡ total f d n
unfolding total
total_same f c d zero h = refl
total_same f c d (suc n) h = ap₂ ◌+◌ (total_same f c d n (λ q l. h q (omega arith))) (ap (λ (v : ℕ). v * f n) (h n (omega arith)))

pub total_set_out : (f : ℕ → ℕ) (s : List ℕ) (q v n : ℕ) → n ≤ q → total f (at (set s q v)) n ≡ total f (at s) n
total_set_out f s q v n l = total_same f (at (set s q v)) (at s) n (λ j h. get_or-set_other s q j v 0 (λ e. omega arith))

-- a pixel that was not counted is counted now
total_set_go : (f : ℕ → ℕ) (s : List ℕ) (q n : ℕ) → Dec (q ≡ n) → q < suc n → q < length s → at s q ≡ 0
    → (q < n → total f (at (set s q 1)) n ≡ total f (at s) n + f q)
    → total f (at (set s q 1)) n + get_or (set s q 1) n 0 * f n ≡ total f (at s) n + get_or s n 0 * f n + f q
total_set_go f s q n (yes e) l i z ih =
    let a : total f (at (set s q 1)) n ≡ total f (at s) n = total_set_out f s q 1 n (omega arith) in
    let b : get_or (set s q 1) n 0 ≡ 1 = rw (← e) (get_or-set_same s q 1 0 i) in
    let z' : get_or s n 0 ≡ 0 = rw (← e) z in
    rw (a, b, z', one-mul, zero-mul, e) (omega arith)
total_set_go f s q n (no ne) l i z ih =
    let a : total f (at (set s q 1)) n ≡ total f (at s) n + f q = ih (omega arith) in
    let b : get_or (set s q 1) n 0 ≡ get_or s n 0 = get_or-set_other s q n 1 0 (λ e. ne (sym e)) in
    rw (a, b) (omega arith)

pub total_set : (f : ℕ → ℕ) (s : List ℕ) (q n : ℕ) → q < n → q < length s → at s q ≡ 0 → total f (at (set s q 1)) n ≡ total f (at s) n + f q
unfolding total
total_set f s q zero l i z = absurd (omega arith)
total_set f s q (suc n) l i z = total_set_go f s q n (ℕ_discrete q n) l i z (λ l'. total_set f s q n l' i z)

-- where each pixel counts once at most and f is at most b, the sum is at most b for each pixel
pub total_most : (f c : ℕ → ℕ) (b n : ℕ) → ((q : ℕ) → c q ≤ 1) → ((q : ℕ) → q < n → f q ≤ b) → total f c n ≤ n * b
unfolding total
total_most f c b zero h g = omega arith
total_most f c b (suc n) h g =
    let a : total f c n ≤ n * b = total_most f c b n h (λ q l. g q (omega arith)) in
    let d : c n * f n ≤ 1 * b = mul-le-mul (h n) (g n (omega arith)) in
    omega (arith, one-mul b, suc-mul n b)

-- as many pixels at most
pub total_below : (c : ℕ → ℕ) (n : ℕ) → ((q : ℕ) → q < n → c q ≤ 1) → total one c n ≤ n
unfolding total
total_below c zero h = omega arith
total_below c (suc n) h = omega (arith, total_below c n (λ q l. h q (omega arith)), h n (omega arith), mul-one (c n))

-- what a store leaves at each place
pub at_set : (s : List ℕ) (q v j : ℕ) → q < length s → ((j ≡ q) × (at (set s q v) j ≡ v)) ⊎ ((j ≢ q) × (at (set s q v) j ≡ at s j))
at_set s q v j l = go (ℕ_discrete j q)
  where
    go : Dec (j ≡ q) → ((j ≡ q) × (at (set s q v) j ≡ v)) ⊎ ((j ≢ q) × (at (set s q v) j ≡ at s j))
    go (yes e) = inl (e, rw e (get_or-set_same s q v 0 l))
    go (no ne) = inr (ne, get_or-set_other s q j v 0 ne)

pub flags_set : (s : List ℕ) (q : ℕ) → q < length s → ((j : ℕ) → at s j ≤ 1) → (j : ℕ) → at (set s q 1) j ≤ 1
flags_set s q l fl j = ⊎_elim (λ w. omega (arith, w.1)) (λ w. omega (arith, w.1, fl j)) (at_set s q 1 j l)

-- while a pixel was not seen, fewer were seen than there are
pub unseen_fewer : (s : List ℕ) (q n : ℕ) → length s ≡ n → ((j : ℕ) → at s j ≤ 1) → q < n → at s q ≡ 0 → total one (at s) n < n
unseen_fewer s q n e fl l z =
    let i : q < length s = omega arith in
    let a : total one (at (set s q 1)) n ≡ total one (at s) n + 1 = total_set one s q n l i z in
    let b : total one (at (set s q 1)) n ≤ n * 1 = total_most one (at (set s q 1)) 1 n (flags_set s q i fl) (λ j k. omega arith) in
    omega (arith, mul-one n)

-- the sum of f over the pixels that wait
unfoldable pub summed : (ℕ → ℕ) → List ℕ → ℕ
summed f [] = 0
summed f (q ∷ k) = summed f k + f q

pub summed_one : (k : List ℕ) → summed one k ≡ length k
unfolding summed
summed_one [] = refl
summed_one (q ∷ k) = rw (summed_one k) (add-one (length k))

-- ---- totals of other kinds

pub total_same_f : (f g : ℕ → ℕ) (n : ℕ) → ((j : ℕ) → j < n → f j ≡ g j) → total f one n ≡ total g one n
unfolding total
total_same_f f g zero h = refl
total_same_f f g (suc n) h = ap₂ ◌+◌ (total_same_f f g n (λ j l. h j (omega arith))) (ap (λ (v : ℕ). 1 * v) (h n (omega arith)))

pub total_next : (f : ℕ → ℕ) (n : ℕ) → total f one (n + 1) ≡ total f one n + f n
unfolding total
total_next f n = rw (add-one, one-mul)

pub total_zero : (f c : ℕ → ℕ) (n : ℕ) → ((q : ℕ) → c q ≡ 0) → total f c n ≡ 0
unfolding total
total_zero f c zero h = refl
total_zero f c (suc n) h = rw (total_zero f c n h, h n) (omega (arith, zero-mul (f n)))

pub total_add : (c d : ℕ → ℕ) (n : ℕ) → total one (λ q. c q + d q) n ≡ total one c n + total one d n
unfolding total
total_add c d zero = refl
total_add c d (suc n) = omega (arith, total_add c d n, mul-one (c n), mul-one (d n), mul-one (c n + d n))

-- what c counts more than d
pub total_less : (f c d : ℕ → ℕ) (n : ℕ) → ((q : ℕ) → d q ≤ c q) → total f c n ≡ total f d n + total f (λ q. c q - d q) n
unfolding total
total_less f c d zero h = refl
total_less f c d (suc n) h =
    let e : c n ≡ d n + (c n - d n) = omega (arith, h n) in
    let m : c n * f n ≡ d n * f n + (c n - d n) * f n = ap (λ (z : ℕ). z * f n) e ∙ add-mul (d n) (c n - d n) (f n) in
    omega (arith, total_less f c d n h, m)
