-- Laws of `turns`. Assumes nothing.
use mathlib.Core.Path.{◌≡◌, refl, sym, ap, ◌∙◌, subst}
use native.Mathlib.Nat.{add-zero, add-suc, zero-mul, suc-mul}
use Prim.Native.Nat.{ℕ, zero, suc, ◌+◌, ◌*◌, ◌-◌, ◌≤◌, ◌<◌}
use native.Mathlib.Omega.{arith}
use native.Mathlib.Numerals.{add-one}
use Rattle.base.specs.Loops.{turns, between}

module _ {A : Type 0} (f : ℕ → A → A) (a : A) where
  pub turns_none : turns 0 f a ≡ a
  unfolding turns
  turns_none = refl

  pub turns_more : (n : ℕ) → turns (n + 1) f a ≡ f n (turns n f a)
  unfolding turns
  turns_more n = rw add-one

  -- what each turn keeps
  pub turns_keep : (P : A → Type 0) → P a → ((k : ℕ) (x : A) → P x → P (f k x)) → (n : ℕ) → P (turns n f a)
  unfolding turns
  turns_keep P p s zero = p
  turns_keep P p s (suc n) = s n (turns n f a) (turns_keep P p s n)

  -- what holds at first, and goes from each turn to the next
  pub turns_each : (P : ℕ → A → Type 0) → P 0 a → ((k : ℕ) (x : A) → P k x → P (k + 1) (f k x)) → (n : ℕ) → P n (turns n f a)
  unfolding turns
  turns_each P p s zero = p
  turns_each P p s (suc n) = subst (λ k. P k (f n (turns n f a))) (add-one n) (s n (turns n f a) (turns_each P p s n))

  -- m turns, and then n more
  pub turns_add : (m n : ℕ) → turns (m + n) f a ≡ turns n (λ k. f (m + k)) (turns m f a)
  unfolding turns
  turns_add m zero = rw add-zero
  turns_add m (suc n) = rw add-suc (ap (f (m + n)) (turns_add m n))

-- the turns of h rows of w, row by row
pub turns_rows : {A : Type 0} (f : ℕ → A → A) (a : A) (w h : ℕ) → turns (h * w) f a ≡ turns h (λ y. turns w (λ x. f (y * w + x))) a
unfolding turns
turns_rows f a w zero = rw zero-mul
turns_rows f a w (suc h) =
    ap (λ n. turns n f a) (suc-mul h w)
    ∙ turns_add f a (h * w) w
    ∙ ap (turns w (λ x. f (h * w + x))) (turns_rows f a w h)

-- two loops whose turns agree
pub turns_cong : {A : Type 0} (f g : ℕ → A → A) (a : A) (n : ℕ) → ((k : ℕ) (x : A) → k < n → f k x ≡ g k x) → turns n f a ≡ turns n g a
unfolding turns
turns_cong f g a zero h = refl
turns_cong f g a (suc n) h =
    ap (f n) (turns_cong f g a n (λ k x r. h k x (omega arith))) ∙ h n (turns n g a) (omega arith)

-- a loop's first head, a turn, and the end
module _ {A : Type 0} (f : ℕ → A → A) (a : A) where
  pub turns_begin : a ≡ turns 0 f a
  unfolding turns
  turns_begin = refl

  pub turns_step : (n : ℕ) {b : A} → b ≡ turns n f a → f n b ≡ turns (n + 1) f a
  turns_step n e = ap (f n) e ∙ sym (turns_more f a n)

  pub turns_end : (k n : ℕ) {b : A} → b ≡ turns k f a → k ≡ n → b ≡ turns n f a
  turns_end k n e h = e ∙ ap (λ i. turns i f a) h

module _ {A : Type 0} (lo : ℕ) (f : ℕ → A → A) (a : A) where
  pub between_begin : a ≡ between lo lo f a
  unfolding between
  between_begin = turns_end _ a 0 (lo - lo) (turns_begin _ a) (omega arith)

  pub between_step : (i : ℕ) {b : A} → lo ≤ i → b ≡ between lo i f a → f i b ≡ between lo (i + 1) f a
  unfolding between
  between_step i {b} h e =
      let p : lo + (i - lo) ≡ i = omega arith in
      let q : i - lo + 1 ≡ i + 1 - lo = omega arith in
      turns_end _ a _ _ (ap (λ j. f j b) (sym p) ∙ turns_step (λ k. f (lo + k)) a (i - lo) e) q

  pub between_end : (k n : ℕ) {b : A} → b ≡ between lo k f a → k ≡ n → b ≡ between lo n f a
  between_end k n e h = e ∙ ap (λ i. between lo i f a) h

-- what holds after n turns, and what each turn keeps, holds after more
module _ {A : Type 0} (f : ℕ → A → A) (a : A) (P : A → Type 0) (keep : (k : ℕ) (x : A) → P x → P (f k x)) where
  turns_on : (n : ℕ) → P (turns n f a) → (d : ℕ) → P (turns (n + d) f a)
  unfolding turns
  turns_on n p zero = rw add-zero p
  turns_on n p (suc d) = rw add-suc (keep (n + d) _ (turns_on n p d))

  pub turns_stay : (n m : ℕ) → n ≤ m → P (turns n f a) → P (turns m f a)
  turns_stay n m h p =
      let e : n + (m - n) ≡ m = omega arith in
      subst (λ k. P (turns k f a)) e (turns_on n p (m - n))

-- a turn that ends the walk: where e is kept by every turn, and turn k gives it, it is the end
module _ {A : Type 0} (f : ℕ → A → A) (a e : A) (keep : (k : ℕ) → f k e ≡ e) where
  pub turns_leave : (k n : ℕ) {b : A} → b ≡ turns k f a → f k b ≡ e → k + 1 ≤ n → turns n f a ≡ e
  turns_leave k n s l h =
      turns_stay f a (λ x. x ≡ e) (λ i x p. ap (f i) p ∙ keep i) (k + 1) n h
      (sym (turns_step f a k s) ∙ l)

-- the same for `between`
module _ {A : Type 0} (lo : ℕ) (f : ℕ → A → A) (a : A) where
  pub between_keep : (P : A → Type 0) → P a → ((k : ℕ) (x : A) → P x → P (f k x)) → (hi : ℕ) → P (between lo hi f a)
  unfolding between
  between_keep P p s hi = turns_keep (λ k. f (lo + k)) a P p (λ k x. s (lo + k) x) (hi - lo)

  pub between_leave : (e : A) → ((k : ℕ) → f k e ≡ e) → (k hi : ℕ) {b : A} → lo ≤ k → b ≡ between lo k f a → f k b ≡ e → k + 1 ≤ hi → between lo hi f a ≡ e
  unfolding between
  between_leave e keep k hi {b} h s l r =
      let p : lo + (k - lo) ≡ k = omega arith in
      turns_leave (λ j. f (lo + j)) a e (λ j. keep (lo + j)) (k - lo) (hi - lo) s (ap (λ j. f j b) p ∙ l) (omega arith)
