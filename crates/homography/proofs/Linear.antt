-- Sums of products, and what follows for a row of coefficients from other rows that hold. Assumes nothing.
use mathlib.Core.Path.{◌≡◌, refl, sym, ap, ◌∙◌}
use mathlib.Core.Logic.{◌≢◌, ⊎_elim}
use Prim.Native.Nat.{ℕ, zero, suc, ◌<◌}
use native.Mathlib.Nat.{eq-or-lt_of_le}
use native.Mathlib.Omega.{arith}
use lib.Dec.{lit<}
use Rattle.homography.specs.Arithmetic.{Arithmetic, CommutativeRing}
use Rattle.homography.specs.Transform.{total}
use Rattle.homography.proofs.Ring as ring

module _ {A : Type 0} (N : Arithmetic A) (R : CommutativeRing N) where
  open N use {nought as 𝟘, one as 𝟙, plus as ◌⊞◌, times as ◌⊠◌}

  infixl 65 ◌⊞◌
  infixl 70 ◌⊠◌
  pub total_cong : (s t : ℕ → A) (n : ℕ) → ((j : ℕ) → j < n → s j ≡ t j) → total N s n ≡ total N t n
  unfolding total
  total_cong s t zero e = refl
  total_cong s t (suc n) e = ap (λ z. z ⊞ s n) (total_cong s t n (λ j l. e j (omega arith))) ∙ ap (λ z. total N t n ⊞ z) (e n (omega arith))

  total_times : (d : A) (t : ℕ → A) (n : ℕ) → total N (λ j. d ⊠ t j) n ≡ d ⊠ total N t n
  unfolding total
  total_times d t zero = sym (ring.times_nought N R d)
  total_times d t (suc n) = ap (λ z. z ⊞ d ⊠ t n) (total_times d t n) ∙ sym (R.times_plus d (total N t n) (t n))

  total_plus : (s t : ℕ → A) (n : ℕ) → total N (λ j. s j ⊞ t j) n ≡ total N s n ⊞ total N t n
  unfolding total
  total_plus s t zero = sym (R.plus_nought 𝟘)
  total_plus s t (suc n) = ap (λ z. z ⊞ (s n ⊞ t n)) (total_plus s t n) ∙ ring.exchange N R (total N s n) (total N t n) (s n) (t n)

  total_nought : (t : ℕ → A) (n : ℕ) → ((j : ℕ) → j < n → t j ≡ 𝟘) → total N t n ≡ 𝟘
  unfolding total
  total_nought t zero e = refl
  total_nought t (suc n) e =
      ap (λ z. z ⊞ t n) (total_nought t n (λ j l. e j (omega arith))) ∙ ap (λ z. 𝟘 ⊞ z) (e n (omega arith)) ∙ R.plus_nought 𝟘

  -- a sum of which one term alone is not 0
  pub total_single : (t : ℕ → A) (n r : ℕ) → r < n → ((j : ℕ) → j < n → j ≢ r → t j ≡ 𝟘) → total N t n ≡ t r
  unfolding total
  total_single t zero r l e = absurd (omega arith)
  total_single t (suc n) r l e =
      ⊎_elim
      (λ k. ap (λ z. z ⊞ t n) (total_nought t n (λ j i. e j (omega arith) (omega arith))) ∙ ring.nought_plus N R (t n) ∙ ap t (sym k))
      (λ k. ap (λ z. total N t n ⊞ z) (e n (omega arith) (omega arith)) ∙ R.plus_nought (total N t n) ∙ total_single t n r k (λ j i. e j (omega arith)))
      (eq-or-lt_of_le {n = r} {m = n} (omega arith))

  -- eight coefficients and the right side
  abbrev pub Row : (ℕ → A) → (ℕ → A) → Type 0
  Row c h = total N (λ j. c j ⊠ h j) 8 ≡ c 8

  pub follows : (b c h : ℕ → A) → ((j : ℕ) → j < 9 → b j ≡ c j) → Row b h → Row c h
  follows b c h e w =
      total_cong (λ j. c j ⊠ h j) (λ j. b j ⊠ h j) 8 (λ j l. ap (λ z. z ⊠ h j) (sym (e j (omega arith)))) ∙ w ∙ e 8 (lit< tt)

  -- a row times d
  pub scales : (b c h : ℕ → A) (d : A) → ((j : ℕ) → j < 9 → b j ≡ c j ⊠ d) → Row c h → Row b h
  scales b c h d e w =
      total_cong (λ j. b j ⊠ h j) (λ j. d ⊠ (c j ⊠ h j)) 8
      (λ j l. ap (λ z. z ⊠ h j) (e j (omega arith) ∙ R.times_comm (c j) d) ∙ R.times_assoc d (c j) (h j))
      ∙ total_times d (λ j. c j ⊠ h j) 8
      ∙ ap (λ z. d ⊠ z) w
      ∙ R.times_comm d (c 8)
      ∙ sym (e 8 (lit< tt))

  -- a row and f times another
  pub adds : (c e k h : ℕ → A) (f : A) → ((j : ℕ) → j < 9 → c j ≡ e j ⊞ f ⊠ k j) → Row e h → Row k h → Row c h
  adds c e k h f q v w =
      total_cong (λ j. c j ⊠ h j) (λ j. e j ⊠ h j ⊞ f ⊠ (k j ⊠ h j)) 8
      (λ j l. ap (λ z. z ⊠ h j) (q j (omega arith)) ∙ ring.plus_times N R (e j) (f ⊠ k j) (h j) ∙ ap (λ z. e j ⊠ h j ⊞ z) (R.times_assoc f (k j) (h j)))
      ∙ total_plus (λ j. e j ⊠ h j) (λ j. f ⊠ (k j ⊠ h j)) 8
      ∙ ap (λ z. total N (λ j. e j ⊠ h j) 8 ⊞ z) (total_times f (λ j. k j ⊠ h j) 8)
      ∙ ap (λ z. z ⊞ f ⊠ total N (λ j. k j ⊠ h j) 8) v
      ∙ ap (λ z. e 8 ⊞ f ⊠ z) w
      ∙ sym (q 8 (lit< tt))
