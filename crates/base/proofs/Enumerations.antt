-- Rising lists: no number stands there twice, and two of the same numbers are one list. And the pigeonhole principle. Assumes nothing.
use Prim.Native.Nat.{ℕ, zero, suc, ◌+◌, ◌-◌, ◌≤◌, ◌<◌}
use mathlib.Core.Path.{◌≡◌, sym, subst, ◌∙◌}
use mathlib.Core.Bool.{cond}
use mathlib.Core.Logic.{⊎_elim}
use native.Mathlib.Nat.{le_antisymm, eq-or-lt_of_le}
use native.Mathlib.Omega.{arith}
use lib.Dec.{ltb}
use borrow.Author.Tests.{lt-ltb, le-ltb}
use Rattle.base.proofs.Arith.{le_or_lt, last_or, at_most}
use Rattle.base.proofs.Pick.{pick_yes, pick_no}

pub rising_once : (a : ℕ → ℕ) (k : ℕ) → ((i j : ℕ) → i < j → j < k → a i < a j) → (i j : ℕ) → i < k → j < k → a i ≡ a j → i ≡ j
rising_once a k rises i j x y e = ⊎_elim
    (λ h. ⊎_elim (λ g. g) (λ g. absurd (let v : a i < a j = rises i j g y in omega arith)) (eq-or-lt_of_le h))
    (λ h. absurd (let v : a j < a i = rises j i h x in omega arith))
    (le_or_lt i j)

-- a 0, .. a (k - 1) rise, and each is one of b 0, .. b (o - 1)
pub record Within (a b : ℕ → ℕ) (k o : ℕ) : Type 0 where
  pub rises : (i j : ℕ) → i < j → j < k → a i < a j
  pub found : (i : ℕ) → i < k → (x : ℕ) × (x < o) × (b x ≡ a i)

-- where the lists agree below i, entry i of the first is not before that of the second
not_before : {a b : ℕ → ℕ} {k o : ℕ} → Within a b k o → Within b a o k → (i : ℕ) → i < k → ((x : ℕ) → x < i → a x ≡ b x) → (i < o) × (b i ≤ a i)
not_before {a} {b} {k} {o} h g i l same = go (h.found i l)
  where
    go : (x : ℕ) × (x < o) × (b x ≡ a i) → (i < o) × (b i ≤ a i)
    go c = ⊎_elim
        (λ r. (
          omega (arith, c.1),
          ⊎_elim
              (λ e. subst (λ z. b z ≤ a i) (sym e) (let z : b c.0 ≡ a i = c.2 in omega arith))
              (λ e. let z : b c.0 ≡ a i = c.2 in let y : b i < b c.0 = g.rises i c.0 e c.1 in omega arith)
              (eq-or-lt_of_le r),
        ))
        (λ r. absurd (let x : a c.0 < a i = h.rises c.0 i r l in let y : a c.0 ≡ b c.0 = same c.0 r in let z : b c.0 ≡ a i = c.2 in omega arith))
        (le_or_lt i c.0)

module _ {a b : ℕ → ℕ} {k o : ℕ} (h : Within a b k o) (g : Within b a o k) where
  agree : (j i : ℕ) → i < j → i < k → a i ≡ b i
  agree zero i l r = absurd (omega arith)
  agree (suc j) i l r = ⊎_elim (λ e. here_too i r (λ x y. agree j x (omega arith) (omega arith))) (λ q. agree j i q r) (last_or i j l)
    where
      here_too : (i : ℕ) → i < k → ((x : ℕ) → x < i → a x ≡ b x) → a i ≡ b i
      here_too i r s =
          let x = not_before h g i r s in
          let y = not_before g h i x.0 (λ z t. sym (s z t)) in
          le_antisymm y.1 x.1

  pub within_same : (i : ℕ) → i < k → (i < o) × (a i ≡ b i)
  within_same i l = ((not_before h g i l (λ x r. agree i x r (omega arith))).0, agree (suc i) i (omega arith) l)

pub within_number : {a b : ℕ → ℕ} {k o : ℕ} → Within a b k o → Within b a o k → k ≡ o
within_number {k = k} {o = o} h g = le_antisymm (at_most k o (λ i l. (within_same h g i l).0)) (at_most o k (λ i l. (within_same g h i l).0))

-- each of a things has its own of b places
pub each_own : (a b : ℕ) (R : ℕ → ℕ → Type 0) → ((i : ℕ) → i < a → (x : ℕ) × (x < b) × R i x) → ((i l x : ℕ) → i < l → l < a → R i x → R l x → ⊥) → a ≤ b
each_own zero b R has own = omega arith
each_own (suc a) b R has own =
    let z : a ≤ b - 1 = each_own a (b - 1) (λ i x. R i (past x)) below (λ i l x s t. own i l (past x) s (omega arith)) in
    omega (arith, last.1)
  where
    last : (x : ℕ) × (x < b) × R a x
    last = has a (omega arith)

    -- the places but that of the last thing
    past : ℕ → ℕ
    past x = cond (ltb x last.0) x (x + 1)

    below : (i : ℕ) → i < a → (x : ℕ) × (x < b - 1) × R i (past x)
    below i l = go (has i (omega arith))
      where
        go : (x : ℕ) × (x < b) × R i x → (x : ℕ) × (x < b - 1) × R i (past x)
        go r = ⊎_elim
            (λ h. ⊎_elim
            (λ e. absurd (own i a last.0 l (omega arith) (subst (R i) (sym e) r.2) last.2))
            (λ h.
            let z : r.0 - 1 + 1 ≡ r.0 = omega arith in
            (r.0 - 1, omega (arith, r.1), subst (R i) (sym z ∙ pick_no _ _ _ (le-ltb (r.0 - 1) last.0 (omega arith))) r.2))
            (eq-or-lt_of_le h))
            (λ h. (r.0, omega (arith, last.1), subst (R i) (pick_yes _ _ _ (lt-ltb r.0 last.0 h)) r.2))
            (le_or_lt last.0 r.0)
