-- Laws that every commutative ring has. Assumes nothing.
use mathlib.Core.Path.{◌≡◌, sym, ap, ◌∙◌}
use Rattle.homography.specs.Arithmetic.{Arithmetic, CommutativeRing}

module _ {A : Type 0} (N : Arithmetic A) (R : CommutativeRing N) where
  open N use {nought as 𝟘, one as 𝟙, plus as ◌⊞◌, times as ◌⊠◌, minus as ⊟◌}

  infixl 65 ◌⊞◌
  infixl 70 ◌⊠◌
  infix 75 ⊟◌
  pub nought_plus : (a : A) → 𝟘 ⊞ a ≡ a
  nought_plus a = R.plus_comm 𝟘 a ∙ R.plus_nought a

  pub minus_plus_self : (a : A) → ⊟ a ⊞ a ≡ 𝟘
  minus_plus_self a = R.plus_comm (⊟ a) a ∙ R.plus_minus a

  pub one_times : (a : A) → 𝟙 ⊠ a ≡ a
  one_times a = R.times_comm 𝟙 a ∙ R.times_one a

  pub plus_times : (a b c : A) → (a ⊞ b) ⊠ c ≡ a ⊠ c ⊞ b ⊠ c
  plus_times a b c =
      R.times_comm (a ⊞ b) c ∙ R.times_plus c a b ∙ ap (λ z. z ⊞ c ⊠ b) (R.times_comm c a) ∙ ap (λ z. a ⊠ c ⊞ z) (R.times_comm c b)

  -- a + b + c + d with the inner two exchanged
  pub exchange : (a b c d : A) → a ⊞ b ⊞ (c ⊞ d) ≡ a ⊞ c ⊞ (b ⊞ d)
  exchange a b c d =
      R.plus_assoc a b (c ⊞ d)
      ∙ ap (λ z. a ⊞ z) (sym (R.plus_assoc b c d) ∙ ap (λ z. z ⊞ d) (R.plus_comm b c) ∙ R.plus_assoc c b d)
      ∙ sym (R.plus_assoc a c (b ⊞ d))

  -- what is added can be taken away again
  pub plus_cancel : (a b : A) → a ⊞ b ⊞ ⊟ b ≡ a
  plus_cancel a b = R.plus_assoc a b (⊟ b) ∙ ap (λ z. a ⊞ z) (R.plus_minus b) ∙ R.plus_nought a

  pub minus_cancel : (a b : A) → a ⊞ ⊟ b ⊞ b ≡ a
  minus_cancel a b = R.plus_assoc a (⊟ b) b ∙ ap (λ z. a ⊞ z) (minus_plus_self b) ∙ R.plus_nought a

  -- what adds up to 0 is the negative
  pub opposite_is : (a b : A) → a ⊞ b ≡ 𝟘 → a ≡ ⊟ b
  opposite_is a b h = sym (plus_cancel a b) ∙ ap (λ z. z ⊞ ⊟ b) h ∙ nought_plus (⊟ b)

  pub times_nought : (a : A) → a ⊠ 𝟘 ≡ 𝟘
  times_nought a =
      sym (plus_cancel (a ⊠ 𝟘) (a ⊠ 𝟘))
      ∙ ap (λ z. z ⊞ ⊟ (a ⊠ 𝟘)) (sym (R.times_plus a 𝟘 𝟘) ∙ ap (λ z. a ⊠ z) (R.plus_nought 𝟘))
      ∙ R.plus_minus (a ⊠ 𝟘)

  pub nought_times : (a : A) → 𝟘 ⊠ a ≡ 𝟘
  nought_times a = R.times_comm 𝟘 a ∙ times_nought a

  pub minus_times : (u x : A) → ⊟ u ⊠ x ≡ ⊟ (u ⊠ x)
  minus_times u x = opposite_is (⊟ u ⊠ x) (u ⊠ x) (sym (plus_times (⊟ u) u x) ∙ ap (λ z. z ⊠ x) (minus_plus_self u) ∙ nought_times x)

  pub minus_plus : (p q : A) → ⊟ p ⊞ ⊟ q ≡ ⊟ (p ⊞ q)
  minus_plus p q =
      opposite_is (⊟ p ⊞ ⊟ q) (p ⊞ q)
      (exchange (⊟ p) (⊟ q) p q ∙ ap (λ z. z ⊞ (⊟ q ⊞ q)) (minus_plus_self p) ∙ nought_plus (⊟ q ⊞ q) ∙ minus_plus_self q)
