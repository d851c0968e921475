-- The lowest refusal number. Assumes nothing.
use mathlib.Core.Path.{◌≡◌, refl, sym, subst, ◌∙◌}
use mathlib.Core.Bool.{Bool, true, false, cond}
use mathlib.Core.Logic.{inl, inr}
use mathlib.Core.List.{List, [], ◌∷◌, ◌++◌}
use Prim.Native.Nat.{ℕ, ◌≤◌, ◌<◌}
use native.Mathlib.Nat.{lt_of_not-le, le_antisymm, le_of_suc-le-suc}
use native.Mathlib.Omega.{arith}
use lib.Dec.{T}
use Rattle.frame.specs.Refusals.{number, Lowest, Check, check, Tested, lowest_of, frame_tests, side_tests, capture_tests}
use Rattle.frame.specs.Image.{Image}
use Rattle.frame.specs.declared.FrameSpec.{FrameSpec}
use Rattle.frame.specs.Refusals.Lowest.{accepted, refused}
use Rattle.frame.specs.declared.refusals.Refusal.{Refusal}

module _ (C : ℕ → Type 0) (positive : (k : ℕ) → C k → 1 ≤ k) where
  -- a refusal's number has its condition, and no lower one has
  pub lowest_holds : (n : ℕ) → Lowest C n → 1 ≤ n → C n
  lowest_holds n (accepted e f) h = absurd (omega arith)
  lowest_holds n (refused c f) h = c

  pub lowest_least : (n k : ℕ) → Lowest C n → 1 ≤ n → C k → n ≤ k
  lowest_least n k (accepted e f) h c = absurd (f k c)
  lowest_least n k (refused d f) h c = le_of_suc-le-suc (lt_of_not-le (λ g. f k g c))

  -- it refuses exactly when a condition holds
  pub refuses_where : (n k : ℕ) → Lowest C n → C k → 1 ≤ n
  refuses_where n k (accepted e f) c = absurd (f k c)
  refuses_where n k (refused d f) c = positive n d

  -- and the number is the only one
  pub lowest_unique : (n m : ℕ) → Lowest C n → Lowest C m → n ≡ m
  lowest_unique n m (accepted e f) (accepted g h) = e ∙ sym g
  lowest_unique n m (accepted e f) (refused d h) = absurd (f m d)
  lowest_unique n m (refused c f) (accepted g h) = absurd (h n c)
  lowest_unique n m (refused c f) (refused d h) =
      le_antisymm
      (le_of_suc-le-suc (lt_of_not-le (λ g. f m g d)))
      (le_of_suc-le-suc (lt_of_not-le (λ g. h n g c)))

-- ---- `lowest_of` is the lowest, in a list whose numbers rise from 1 on

abbrev pub Rising : ℕ → List Check → Type 0
Rising lo [] = Unit {0}
Rising lo (c ∷ l) = (lo < number c.refusal) × Rising (number c.refusal) l

pub above : (lo n : ℕ) (l : List Check) → Rising lo l → Tested n l → lo < n
above lo n [] h t = absurd t
above lo n (c ∷ l) h (inl t) = let x : lo < number c.refusal = h.0 in let e : n ≡ number c.refusal = t.0 in omega arith
above lo n (c ∷ l) h (inr k) = let x : lo < number c.refusal = h.0 in let y : number c.refusal < n = above (number c.refusal) n l h.1 k in omega arith

pub lowest_of_lem : (lo : ℕ) (l : List Check) → Rising lo l → Lowest (λ n. Tested n l) (lowest_of l)
unfolding lowest_of
lowest_of_lem lo [] h = accepted refl (λ k t. t)
lowest_of_lem lo (c ∷ l) h = go c.holds refl (lowest_of_lem (number c.refusal) l h.1)
  where
    go : (b : Bool) → c.holds ≡ b → Lowest (λ n. Tested n l) (lowest_of l) → Lowest (λ n. Tested n (c ∷ l)) (cond b (number c.refusal) (lowest_of l))
    go true e r = refused (inl (refl, subst T (sym e) tt)) lower
      where
        lower : (k : ℕ) → k < number c.refusal → Tested k (c ∷ l) → ⊥
        lower k g (inl t) = let x : k ≡ number c.refusal = t.0 in omega arith
        lower k g (inr p) = let y : number c.refusal < k = above (number c.refusal) k l h.1 p in omega arith
    go false e (accepted p f) = accepted p neither
      where
        neither : (k : ℕ) → Tested k (c ∷ l) → ⊥
        neither k (inl t) = subst T e t.1
        neither k (inr q) = f k q
    go false e (refused p f) = refused (inr p) lower
      where
        lower : (k : ℕ) → k < lowest_of l → Tested k (c ∷ l) → ⊥
        lower k g (inl t) = subst T e t.1
        lower k g (inr q) = f k g q

-- where the number is 0 no test holds
pub none_tested : (l : List Check) → Rising 0 l → lowest_of l ≡ 0 → (n : ℕ) → Tested n l → ⊥
none_tested l r e = go (lowest_of_lem 0 l r)
  where
    go : Lowest (λ n. Tested n l) (lowest_of l) → (n : ℕ) → Tested n l → ⊥
    go (accepted d g) n u = g n u
    go (refused t g) n u = let z : 0 < lowest_of l = above 0 (lowest_of l) l r t in omega arith

-- ---- a call works its tests off one after another: the first that holds ends them, one that fails leaves the rest

pub lowest_first : (r : Refusal) (t : Bool) (l : List Check) → t ≡ true → lowest_of (check r t ∷ l) ≡ number r
unfolding lowest_of
lowest_first r t l e = rw e

pub lowest_next : (r : Refusal) (t : Bool) (l : List Check) → t ≡ false → lowest_of (check r t ∷ l) ≡ lowest_of l
unfolding lowest_of
lowest_next r t l e = rw e

pub lowest_none : lowest_of [] ≡ 0
unfolding lowest_of
lowest_none = refl

-- ---- tests p, with others q behind them

module _ (q : List Check) where
  before_step : (b : Bool) (m k n : ℕ) (p : List Check) → (n ≡ k → n ≡ lowest_of (p ++ q)) → n ≡ cond b m k → n ≡ cond b m (lowest_of (p ++ q))
  before_step true m k n p f d = d
  before_step false m k n p f d = f d

  pub lowest_before : (p : List Check) (n : ℕ) → n ≡ lowest_of p → (n ≡ 0 → ⊥) → n ≡ lowest_of (p ++ q)
  unfolding lowest_of
  lowest_before [] n e h = absurd (h e)
  lowest_before (c ∷ p) n e h = before_step c.holds (number c.refusal) (lowest_of p) n p (λ d. lowest_before p n d h) e

  past_step : (b : Bool) (m k j : ℕ) → 0 < m → (k ≡ 0 → j ≡ lowest_of q) → cond b m k ≡ 0 → cond b m j ≡ lowest_of q
  past_step true m k j h f d = absurd (omega arith)
  past_step false m k j h f d = f d

  pub lowest_past : (lo : ℕ) (p : List Check) → Rising lo p → lowest_of p ≡ 0 → lowest_of (p ++ q) ≡ lowest_of q
  unfolding lowest_of
  lowest_past lo [] r e = refl
  lowest_past lo (c ∷ p) r e =
      let x : lo < number c.refusal = r.0 in
      past_step c.holds (number c.refusal) (lowest_of p) (lowest_of (p ++ q)) (omega arith) (lowest_past (number c.refusal) p r.1) e

-- ---- the tests of this crate's definitions rise, so that a refusal is the lowest number by meaning

pub frame_rising : (f : FrameSpec) → Rising 0 (frame_tests f)
unfolding frame_tests
frame_rising f = (omega arith, tt)

pub side_rising : (w h : ℕ) → Rising 0 (side_tests w h)
unfolding side_tests
side_rising w h = (omega arith, tt)

pub capture_rising : (img : Image) → Rising 0 (capture_tests img)
unfolding capture_tests
capture_rising img = (omega arith, tt)
