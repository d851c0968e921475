-- A class of dark pixels told by its flags, and by tests on them. Assumes nothing.
use mathlib.Core.Path.{◌≡◌, refl, sym, subst, ◌∙◌}
use mathlib.Core.Bool.{Bool, true, false, not, ◌&&◌, ◌||◌}
use mathlib.Core.Logic.{◌⊎◌, inl, inr, ⊎_elim}
use mathlib.Core.List.{List}
use Prim.Native.Nat.{ℕ, zero, suc, ◌+◌, ◌%◌, ◌≤◌, ◌<◌}
use native.Mathlib.Nat.{eq-or-lt_of_le, le_of_suc-le-suc, lt_of_not-le}
use native.Mathlib.Omega.{arith}
use lib.Dec.{T, leb, ltb, eqb, leb→le, lt→ltb, eqb→eq, T_not, not_T, lit<, lit≤}
use lib.Ieee.Fits.{and_l, and_r, eq→eqb}
use lib.ListN.{length, get_or, get_or-eq_default}
use Rattle.blobs.specs.Patches.{Dark, Touch, Joined, Marks}
use Rattle.blobs.specs.Patches.Touch.{right, left, under, over}
use Rattle.blobs.specs.Patches.Joined.{here, step}

-- ---- tests on the first n numbers
unfoldable pub all : ℕ → (ℕ → Bool) → Bool
all zero p = true
all (suc n) p = all n p && p n

all_at : (n : ℕ) (p : ℕ → Bool) → T (all n p) → (q : ℕ) → q < n → T (p q)
unfolding all
all_at zero p h q l = absurd (omega arith)
all_at (suc n) p h q l =
    ⊎_elim (λ e. subst (λ z. T (p z)) (sym e) (and_r (all n p) (p n) h)) (λ k. all_at n p (and_l (all n p) (p n) h) q k) (eq-or-lt_of_le (le_of_suc-le-suc l))

unfoldable pub implies : Bool → Bool → Bool
implies a b = not a || b

use_implies : (a b : Bool) → T (implies a b) → T a → T b
unfolding implies
use_implies true b h k = h
use_implies false b h k = absurd k

unfoldable pub dark : List ℕ → ℕ → Bool
dark m q = not (eqb (get_or m q 0) 0)

is_dark_lem : (m : List ℕ) (q : ℕ) → Dark m q → T (dark m q)
unfolding dark
is_dark_lem m q d = not_T (eqb (get_or m q 0) 0) (λ t. d (eqb→eq (get_or m q 0) 0 t))

-- ---- a class given by its flags c: no edge between dark pixels leads out of it
unfoldable pub edge : List ℕ → List ℕ → ℕ → ℕ → Bool
edge m c p q = implies (dark m p) (implies (dark m q) (eqb (get_or c p 0) (get_or c q 0)))

unfoldable pub edges : List ℕ → ℕ → List ℕ → ℕ → Bool
edges m w c p = implies (ltb (p % w + 1) w) (edge m c p (p + 1)) && edge m c p (p + w)

module _ (m : List ℕ) (w : ℕ) (c : List ℕ) (closed : T (all (length m) (edges m w c))) where
  pub inside : (q : ℕ) → Dark m q → q < length m
  inside q d = lt_of_not-le (λ h. d (get_or-eq_default m 0 h))

  same : (p q : ℕ) → T (edge m c p q) → Dark m p → Dark m q → get_or c p 0 ≡ get_or c q 0
  unfolding edge
  same p q h d e =
      eqb→eq (get_or c p 0) (get_or c q 0)
      (use_implies (dark m q) (eqb (get_or c p 0) (get_or c q 0)) (use_implies (dark m p) (implies (dark m q) (eqb (get_or c p 0) (get_or c q 0))) h (is_dark_lem m p d)) (is_dark_lem m q e))

  beside : (p : ℕ) → Dark m p → Dark m (p + 1) → p % w + 1 < w → get_or c p 0 ≡ get_or c (p + 1) 0
  beside p d e l = same p (p + 1) (use_implies (ltb (p % w + 1) w) (edge m c p (p + 1)) (both p d) (lt→ltb (p % w + 1) w l)) d e
    where
      both : (p : ℕ) → Dark m p → T (implies (ltb (p % w + 1) w) (edge m c p (p + 1)))
      both p d = and_l (implies (ltb (p % w + 1) w) (edge m c p (p + 1))) (edge m c p (p + w)) (unfold edges in all_at (length m) (edges m w c) closed p (inside p d))

  above : (p : ℕ) → Dark m p → Dark m (p + w) → get_or c p 0 ≡ get_or c (p + w) 0
  above p d e = same p (p + w) (both p d) d e
    where
      both : (p : ℕ) → Dark m p → T (edge m c p (p + w))
      both p d = and_r (implies (ltb (p % w + 1) w) (edge m c p (p + 1))) (edge m c p (p + w)) (unfold edges in all_at (length m) (edges m w c) closed p (inside p d))

  touched : (p q : ℕ) → Touch w p q → Dark m p → Dark m q → get_or c p 0 ≡ get_or c q 0
  touched p q (right e l) d g = subst (λ z. Dark m z → get_or c p 0 ≡ get_or c z 0) (sym e) (λ h. beside p d h l) g
  touched p q (left e l) d g = subst (λ z. Dark m z → get_or c z 0 ≡ get_or c q 0) (sym e) (λ h. sym (beside q g h l)) d
  touched p q (under e) d g = subst (λ z. Dark m z → get_or c p 0 ≡ get_or c z 0) (sym e) (λ h. above p d h) g
  touched p q (over e) d g = subst (λ z. Dark m z → get_or c z 0 ≡ get_or c q 0) (sym e) (λ h. sym (above q g h)) d

  end_dark : {a q : ℕ} → Joined m w a q → Dark m q
  end_dark (here d) = d
  end_dark (step j t d) = d

  flag : {a q : ℕ} → Joined m w a q → get_or c a 0 ≡ get_or c q 0
  flag (here d) = refl
  flag (step {q} {r} j t d) = flag j ∙ touched q r t (end_dark j) d

  -- its flags mark it, where each flagged pixel is joined to a
  pub marks_it : (a : ℕ) → get_or c a 0 ≡ 1 → ((q : ℕ) → q < length m → get_or c q 0 ≡ 1 → Joined m w a q)
      → T (all (length m) (λ q. leb (get_or c q 0) 1)) → length c ≡ length m → Marks (λ q. get_or c q 0) (Joined m w a)
  marks_it a e joins flags long q = go (leb (length m) q) (leb→le (length m) q) (λ t. lt_of_not-le (λ h. T_not (leb (length m) q) t (le→ h)))
    where
      le→ : length m ≤ q → T (leb (length m) q)
      le→ h = lib.Dec.le→leb (length m) q h

      out : get_or c q 0 ≡ 0 → Joined m w a q → ⊥
      out z j = let k : get_or c a 0 ≡ get_or c q 0 = flag j in omega arith

      by_flag : (v : ℕ) → get_or c q 0 ≡ v → v ≤ 1 → q < length m → ((get_or c q 0 ≡ 1) × Joined m w a q) ⊎ ((get_or c q 0 ≡ 0) × (Joined m w a q → ⊥))
      by_flag zero z l k = inr (z, out z)
      by_flag (suc zero) z l k = inl (z, joins q k z)
      by_flag (suc (suc v)) z l k = absurd (omega arith)

      go : (b : Bool) → (T b → length m ≤ q) → (T (not b) → q < length m) → ((get_or c q 0 ≡ 1) × Joined m w a q) ⊎ ((get_or c q 0 ≡ 0) × (Joined m w a q → ⊥))
      go true p r = let l : length m ≤ q = p tt in let z : get_or c q 0 ≡ 0 = get_or-eq_default c 0 (omega arith) in inr (z, out z)
      go false p r = by_flag (get_or c q 0) refl (leb→le (get_or c q 0) 1 (all_at (length m) (λ q. leb (get_or c q 0) 1) flags q (r tt))) (r tt)

  -- a bound of f on the class is one on the flagged pixels
  pub at_least : (a v : ℕ) (f : ℕ → ℕ) → get_or c a 0 ≡ 1 → T (all (length m) (λ q. implies (eqb (get_or c q 0) 1) (leb v (f q)))) → (q : ℕ) → Joined m w a q → v ≤ f q
  at_least a v f e h q j =
      leb→le v (f q) (use_implies (eqb (get_or c q 0) 1) (leb v (f q)) (all_at (length m) (λ q. implies (eqb (get_or c q 0) 1) (leb v (f q))) h
      q (inside q (end_dark j))) (eq→eqb (sym (flag j) ∙ e)))

  pub at_most : (a v : ℕ) (f : ℕ → ℕ) → get_or c a 0 ≡ 1 → T (all (length m) (λ q. implies (eqb (get_or c q 0) 1) (leb (f q) v))) → (q : ℕ) → Joined m w a q → f q ≤ v
  at_most a v f e h q j =
      leb→le (f q) v (use_implies (eqb (get_or c q 0) 1) (leb (f q) v) (all_at (length m) (λ q. implies (eqb (get_or c q 0) 1) (leb (f q) v)) h
      q (inside q (end_dark j))) (eq→eqb (sym (flag j) ∙ e)))
