-- Numbers of one digit and of two. Assumes nothing.
use Prim.Native.Nat.{ℕ, ◌+◌, ◌*◌, ◌/◌, ◌%◌, ◌≤◌, ◌<◌}
use native.Mathlib.Decide.{dec_lt}
use native.Mathlib.Omega.{arith}
use mathlib.Core.Path.{◌≡◌, refl, sym, ap, ◌∙◌}
use mathlib.Core.List.{List, [], ◌∷◌, ◌++◌}
use mathlib.Core.Logic.{◌⊎◌, ⊎_elim}
use lib.ListN.{length, get_or}
use Rattle.std.specs.Prelude.{Some, None}
use Rattle.patch_text.specs.Text.{decimal}
use Rattle.patch_text.proofs.Numbers.{spelled_last, spelled_more}
use Rattle.checkerboard_text.specs.Steps.{Digit, Side}

pub decimal_one : (n : ℕ) → n < 10 → decimal n ≡ (48 + n) ∷ []
unfolding decimal
decimal_one n l = spelled_last 19 n l

pub decimal_two : (n : ℕ) → 10 ≤ n → n < 100 → decimal n ≡ (48 + n / 10) ∷ (48 + n % 10) ∷ []
unfolding decimal
decimal_two n l h = spelled_more 19 n l ∙ ap (λ d. d ++ ((48 + n % 10) ∷ [])) (spelled_last 18 (n / 10) (omega arith))

-- ---- what spells a number
module _ (a n : ℕ) (h : n ≤ 64) where
  pub one_spelled : a ∷ [] ≡ decimal n → (n < 10) × (a ≡ 48 + n)
  one_spelled e = go (dec_lt n 10)
    where
      go : Dec (n < 10) → (n < 10) × (a ≡ 48 + n)
      go (yes l) = (l, ap (λ d. get_or d 0 0) (e ∙ decimal_one n l))
      go (no o) = absurd (let z : 1 ≡ 2 = ap length (e ∙ decimal_two n (omega arith) (omega arith)) in omega arith)

  pub two_spelled : (b : ℕ) → a ∷ b ∷ [] ≡ decimal n → (10 ≤ n) × (a ≡ 48 + n / 10) × (b ≡ 48 + n % 10)
  two_spelled b e = go (dec_lt n 10)
    where
      go : Dec (n < 10) → (10 ≤ n) × (a ≡ 48 + n / 10) × (b ≡ 48 + n % 10)
      go (yes l) = absurd (let z : 2 ≡ 1 = ap length (e ∙ decimal_one n l) in omega arith)
      go (no o) =
          let d = e ∙ decimal_two n (omega arith) (omega arith) in
          (omega arith, ap (λ l. get_or l 0 0) d, ap (λ l. get_or l 1 0) d)

  pub long_spelled : (length (decimal n) ≡ 1 → ⊥) → (length (decimal n) ≡ 2 → ⊥) → ⊥
  long_spelled x y = go (dec_lt n 10)
    where
      go : Dec (n < 10) → ⊥
      go (yes l) = x (ap length (decimal_one n l))
      go (no o) = y (ap length (decimal_two n (omega arith) (omega arith)))

pub decimal_same : {n k : ℕ} → n ≤ 64 → k ≤ 64 → decimal n ≡ decimal k → n ≡ k
decimal_same {n} {k} a b e = go (dec_lt n 10)
  where
    go : Dec (n < 10) → n ≡ k
    go (yes l) = omega (arith, (one_spelled (48 + n) k b (sym (decimal_one n l) ∙ e)).1)
    go (no o) = let s = two_spelled (48 + n / 10) k b (48 + n % 10) (sym (decimal_two n (omega arith) (omega arith)) ∙ e) in omega (arith, s.1, s.2)

-- ---- what the functions answer
module _ (a : ℕ) where
  pub one_not : Digit a None → Side (a ∷ []) None
  one_not f n m h e = let s = one_spelled a n h e in f n s.0 s.1

  pub one_zero : (x : ℕ) → Digit a (Some x) → x ≡ 0 → Side (a ∷ []) None
  one_zero x d z n m h e = let s = one_spelled a n h e in omega (arith, s.1, d.1)

  pub one_is : (x : ℕ) → Digit a (Some x) → (x ≡ 0 → ⊥) → Side (a ∷ []) (Some x)
  one_is x d o = (omega arith, omega (arith, d.0), ap (λ c. c ∷ []) d.1 ∙ sym (decimal_one x d.0))

  module _ (b : ℕ) where
    pub tens_not : Digit a None → Side (a ∷ b ∷ []) None
    tens_not f n m h e = let s = two_spelled a n h b e in f (n / 10) (omega arith) s.1

    pub ones_not : Digit b None → Side (a ∷ b ∷ []) None
    ones_not f n m h e = let s = two_spelled a n h b e in f (n % 10) (omega arith) s.2

    module _ (x y : ℕ) (d : Digit a (Some x)) (c : Digit b (Some y)) where
      -- the number that the two bytes spell has these digits
      two_are : (n : ℕ) → n ≤ 64 → a ∷ b ∷ [] ≡ decimal n → (10 ≤ n) × (n ≡ 10 * x + y)
      two_are n h e = let s = two_spelled a n h b e in (s.0, omega (arith, s.1, s.2, d.1, c.1))

      pub two_not : ((x ≡ 0) ⊎ (64 < 10 * x + y)) → Side (a ∷ b ∷ []) None
      two_not f n m h e = let s = two_are n h e in ⊎_elim (λ z. omega (arith, s.0, s.1, c.0)) (λ z. omega (arith, s.1)) f

      pub two_is : (x ≡ 0 → ⊥) → 10 * x + y ≤ 64 → Side (a ∷ b ∷ []) (Some (10 * x + y))
      two_is o h = (omega arith, h, spells)
        where
          tens : (10 * x + y) / 10 ≡ x
          tens = omega (arith, c.0)

          ones : (10 * x + y) % 10 ≡ y
          ones = omega (arith, c.0)

          spells : a ∷ b ∷ [] ≡ decimal (10 * x + y)
          spells =
              ap (λ z. z ∷ b ∷ []) (d.1 ∙ ap (λ z. 48 + z) (sym tens))
              ∙ ap (λ z. (48 + (10 * x + y) / 10) ∷ z ∷ []) (c.1 ∙ ap (λ z. 48 + z) (sym ones))
              ∙ sym (decimal_two (10 * x + y) (omega arith) (omega arith))

-- ---- lists of one entry and of two
pub one_entry : (d : List ℕ) → length d ≡ 1 → get_or d 0 0 ∷ [] ≡ d
one_entry [] e = absurd (omega arith)
one_entry (a ∷ []) e = refl
one_entry (a ∷ b ∷ d) e = absurd (omega arith)

pub two_entries : (d : List ℕ) → length d ≡ 2 → get_or d 0 0 ∷ get_or d 1 0 ∷ [] ≡ d
two_entries [] e = absurd (omega arith)
two_entries (a ∷ []) e = absurd (omega arith)
two_entries (a ∷ b ∷ []) e = refl
two_entries (a ∷ b ∷ c ∷ d) e = absurd (omega arith)

-- no number of another length
pub side_none : (d : List ℕ) → (length d ≡ 1 → ⊥) → (length d ≡ 2 → ⊥) → Side d None
side_none d x y = (λ n m h e. long_spelled 0 n h (λ z. x (ap length e ∙ z)) (λ z. y (ap length e ∙ z)))
