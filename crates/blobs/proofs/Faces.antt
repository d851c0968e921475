-- What a pixel's four sides face: the dark pixels that share an edge with it are there. Assumes nothing.
use Prim.Native.Nat.{ℕ, ◌+◌, ◌-◌, ◌%◌}
use native.Mathlib.Omega.{arith}
use mathlib.Core.Path.{◌≡◌}
use mathlib.Core.Bool.{Bool, true}
use mathlib.Core.List.{List}
use mathlib.Core.Logic.{◌⊎◌, inl, inr}
use lib.Dec.{leb, ltb}
use lib.ListN.{length}
use borrow.Author.Tests.{lt-ltb, le-leb}
use Rattle.blobs.specs.Patches.{Dark, Touch}
use Rattle.blobs.specs.Patches.Touch.{right, left, under, over}
use Rattle.blobs.proofs.Grid.{right_of, dark_inside}

-- q is the pixel r that a side faces, if there is one, and dark
abbrev pub Faced : List ℕ → Bool → ℕ → ℕ → Type 0
Faced m there r q = (q ≡ r) × (there ≡ true) × Dark m q

-- ---- the four sides of p: left, right, upper, lower
module _ (m : List ℕ) (w p : ℕ) where
  abbrev pub L : ℕ → Type 0
  L = Faced m (ltb 0 (p % w)) (p - 1)

  abbrev pub R : ℕ → Type 0
  R = Faced m (ltb (p % w + 1) w) (p + 1)

  abbrev pub U : ℕ → Type 0
  U = Faced m (leb w p) (p - w)

  abbrev pub D : ℕ → Type 0
  D = Faced m (ltb (p + w) (length m)) (p + w)

  -- the dark pixels that share an edge with p are what they face
  pub faces : (q : ℕ) → Touch w p q → Dark m q → ((L q ⊎ R q) ⊎ U q) ⊎ D q
  faces q (left e l) d = inl (inl (inl (omega arith, lt-ltb 0 (p % w) (right_of p q w e l), d)))
  faces q (right e l) d = inl (inl (inr (e, lt-ltb (p % w + 1) w l, d)))
  faces q (over e) d = inl (inr (omega arith, le-leb w p (omega arith), d))
  faces q (under e) d = inr (e, lt-ltb (p + w) (length m) (omega (arith, dark_inside m q d)), d)
