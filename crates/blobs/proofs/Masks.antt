-- M7 and M8 over the meaning of a patch. Assumes nothing.
use mathlib.Core.Path.{◌≡◌, refl}
use mathlib.Core.List.{List, [], ◌∷◌}
use Prim.Native.Nat.{ℕ, zero, suc, ◌<◌}
use native.Mathlib.Omega.{arith}
use lib.Dec.{T, leb, lit<, lit≤}
use lib.ListN.{length, get_or}
use Rattle.blobs.specs.Patches.{Dark, Joined, total, column, row, light, side, sides, PatchOf, First, patch_at, PatchList}
use Rattle.blobs.specs.Patches.Touch.{right, left, under, over}
use Rattle.blobs.specs.Patches.Joined.{here, step}
use Rattle.blobs.proofs.Classes.{all, implies, dark, edge, edges, inside, marks_it, at_least, at_most}

-- ---- M8: #.#, #.#, ### is one patch: 7 7 8 0 0 2 2 16

abbrev pub mask8 : List ℕ
mask8 = 1 ∷ 0 ∷ 1 ∷ 1 ∷ 0 ∷ 1 ∷ 1 ∷ 1 ∷ 1 ∷ []

is1 : {n : ℕ} → n ≡ suc zero → n ≡ 0 → ⊥
is1 p q = omega arith

-- the chain around the bend: 0, 3, 6, 7, 8, 5, 2
c0 : Joined mask8 3 0 0
c0 = here (is1 refl)

c3 : Joined mask8 3 0 3
c3 = step c0 (under refl) (is1 refl)

c6 : Joined mask8 3 0 6
c6 = step c3 (under refl) (is1 refl)

c7 : Joined mask8 3 0 7
c7 = step c6 (right refl (lit< tt)) (is1 refl)

c8 : Joined mask8 3 0 8
c8 = step c7 (right refl (lit< tt)) (is1 refl)

c5 : Joined mask8 3 0 5
c5 = step c8 (over refl) (is1 refl)

c2 : Joined mask8 3 0 2
c2 = step c5 (over refl) (is1 refl)

closed_u : T (all (length mask8) (edges mask8 3 mask8))
unfolding all edges edge implies dark
closed_u = tt

flags_u : T (all (length mask8) (λ q. leb (get_or mask8 q 0) 1))
unfolding all
flags_u = tt

joins_u : (q : ℕ) → q < 9 → get_or mask8 q 0 ≡ 1 → Joined mask8 3 0 q
joins_u zero l e = c0
joins_u (suc zero) l e = absurd (let z : ◌≡◌ {A = ℕ} 0 1 = e in omega arith)
joins_u (suc (suc zero)) l e = c2
joins_u (suc (suc (suc zero))) l e = c3
joins_u (suc (suc (suc (suc zero)))) l e = absurd (let z : ◌≡◌ {A = ℕ} 0 1 = e in omega arith)
joins_u (suc (suc (suc (suc (suc zero))))) l e = c5
joins_u (suc (suc (suc (suc (suc (suc zero)))))) l e = c6
joins_u (suc (suc (suc (suc (suc (suc (suc zero))))))) l e = c7
joins_u (suc (suc (suc (suc (suc (suc (suc (suc zero)))))))) l e = c8
joins_u (suc (suc (suc (suc (suc (suc (suc (suc (suc q))))))))) l e = absurd (omega arith)

pub m8 : PatchOf mask8 3 0 (record { area = 7; sx = 7; sy = 8; x0 = 0; y0 = 0; x1 = 2; y1 = 2; outline = 16 })
unfolding total sides side light all implies
m8 =
    record {
      marks = λ q. get_or mask8 q 0;
      marked = marks_it mask8 3 mask8 closed_u 0 refl joins_u flags_u refl;
      area_is = refl;
      sx_is = refl;
      sy_is = refl;
      outline_is = refl;
      x0_is = (at_least mask8 3 mask8 closed_u 0 0 (column 3) refl tt, (0, c0, refl));
      y0_is = (at_least mask8 3 mask8 closed_u 0 0 (row 3) refl tt, (0, c0, refl));
      x1_is = (at_most mask8 3 mask8 closed_u 0 2 (column 3) refl tt, (2, c2, refl));
      y1_is = (at_most mask8 3 mask8 closed_u 0 2 (row 3) refl tt, (8, c8, refl));
    }

-- ---- M7: #.#, .#., ##. has three patches, joined at edges and not at corners

abbrev pub mask7 : List ℕ
mask7 = 1 ∷ 0 ∷ 1 ∷ 0 ∷ 1 ∷ 0 ∷ 1 ∷ 1 ∷ 0 ∷ []

-- the three classes
abbrev va : List ℕ
va = 1 ∷ 0 ∷ 0 ∷ 0 ∷ 0 ∷ 0 ∷ 0 ∷ 0 ∷ 0 ∷ []

abbrev vb : List ℕ
vb = 0 ∷ 0 ∷ 1 ∷ 0 ∷ 0 ∷ 0 ∷ 0 ∷ 0 ∷ 0 ∷ []

abbrev vc : List ℕ
vc = 0 ∷ 0 ∷ 0 ∷ 0 ∷ 1 ∷ 0 ∷ 1 ∷ 1 ∷ 0 ∷ []

closed_a : T (all (length mask7) (edges mask7 3 va))
unfolding all edges edge implies dark
closed_a = tt

closed_b : T (all (length mask7) (edges mask7 3 vb))
unfolding all edges edge implies dark
closed_b = tt

closed_c : T (all (length mask7) (edges mask7 3 vc))
unfolding all edges edge implies dark
closed_c = tt

a0 : Joined mask7 3 0 0
a0 = here (is1 refl)

b2 : Joined mask7 3 2 2
b2 = here (is1 refl)

c4 : Joined mask7 3 4 4
c4 = here (is1 refl)

d7 : Joined mask7 3 4 7
d7 = step c4 (under refl) (is1 refl)

d6 : Joined mask7 3 4 6
d6 = step d7 (left refl (lit< tt)) (is1 refl)

zero≢one : ◌≡◌ {A = ℕ} 0 1 → ⊥
zero≢one e = omega arith

-- what a flag that is 1 says, pixel by pixel
joins_a : (q : ℕ) → q < 9 → get_or va q 0 ≡ 1 → Joined mask7 3 0 q
joins_a zero l e = a0
joins_a (suc zero) l e = absurd (zero≢one e)
joins_a (suc (suc zero)) l e = absurd (zero≢one e)
joins_a (suc (suc (suc zero))) l e = absurd (zero≢one e)
joins_a (suc (suc (suc (suc zero)))) l e = absurd (zero≢one e)
joins_a (suc (suc (suc (suc (suc zero))))) l e = absurd (zero≢one e)
joins_a (suc (suc (suc (suc (suc (suc zero)))))) l e = absurd (zero≢one e)
joins_a (suc (suc (suc (suc (suc (suc (suc zero))))))) l e = absurd (zero≢one e)
joins_a (suc (suc (suc (suc (suc (suc (suc (suc zero)))))))) l e = absurd (zero≢one e)
joins_a (suc (suc (suc (suc (suc (suc (suc (suc (suc q))))))))) l e = absurd (omega arith)

joins_b : (q : ℕ) → q < 9 → get_or vb q 0 ≡ 1 → Joined mask7 3 2 q
joins_b zero l e = absurd (zero≢one e)
joins_b (suc zero) l e = absurd (zero≢one e)
joins_b (suc (suc zero)) l e = b2
joins_b (suc (suc (suc zero))) l e = absurd (zero≢one e)
joins_b (suc (suc (suc (suc zero)))) l e = absurd (zero≢one e)
joins_b (suc (suc (suc (suc (suc zero))))) l e = absurd (zero≢one e)
joins_b (suc (suc (suc (suc (suc (suc zero)))))) l e = absurd (zero≢one e)
joins_b (suc (suc (suc (suc (suc (suc (suc zero))))))) l e = absurd (zero≢one e)
joins_b (suc (suc (suc (suc (suc (suc (suc (suc zero)))))))) l e = absurd (zero≢one e)
joins_b (suc (suc (suc (suc (suc (suc (suc (suc (suc q))))))))) l e = absurd (omega arith)

joins_c : (q : ℕ) → q < 9 → get_or vc q 0 ≡ 1 → Joined mask7 3 4 q
joins_c zero l e = absurd (zero≢one e)
joins_c (suc zero) l e = absurd (zero≢one e)
joins_c (suc (suc zero)) l e = absurd (zero≢one e)
joins_c (suc (suc (suc zero))) l e = absurd (zero≢one e)
joins_c (suc (suc (suc (suc zero)))) l e = c4
joins_c (suc (suc (suc (suc (suc zero))))) l e = absurd (zero≢one e)
joins_c (suc (suc (suc (suc (suc (suc zero)))))) l e = d6
joins_c (suc (suc (suc (suc (suc (suc (suc zero))))))) l e = d7
joins_c (suc (suc (suc (suc (suc (suc (suc (suc zero)))))))) l e = absurd (zero≢one e)
joins_c (suc (suc (suc (suc (suc (suc (suc (suc (suc q))))))))) l e = absurd (omega arith)

flags_a : T (all (length mask7) (λ q. leb (get_or va q 0) 1))
unfolding all
flags_a = tt

flags_b : T (all (length mask7) (λ q. leb (get_or vb q 0) 1))
unfolding all
flags_b = tt

flags_c : T (all (length mask7) (λ q. leb (get_or vc q 0) 1))
unfolding all
flags_c = tt

patch_a : PatchOf mask7 3 0 (record { area = 1; sx = 0; sy = 0; x0 = 0; y0 = 0; x1 = 0; y1 = 0; outline = 4 })
unfolding total sides side light all implies
patch_a =
    record {
      marks = λ q. get_or va q 0;
      marked = marks_it mask7 3 va closed_a 0 refl joins_a flags_a refl;
      area_is = refl;
      sx_is = refl;
      sy_is = refl;
      outline_is = refl;
      x0_is = (at_least mask7 3 va closed_a 0 0 (column 3) refl tt, (0, a0, refl));
      y0_is = (at_least mask7 3 va closed_a 0 0 (row 3) refl tt, (0, a0, refl));
      x1_is = (at_most mask7 3 va closed_a 0 0 (column 3) refl tt, (0, a0, refl));
      y1_is = (at_most mask7 3 va closed_a 0 0 (row 3) refl tt, (0, a0, refl));
    }

patch_b : PatchOf mask7 3 2 (record { area = 1; sx = 2; sy = 0; x0 = 2; y0 = 0; x1 = 2; y1 = 0; outline = 4 })
unfolding total sides side light all implies
patch_b =
    record {
      marks = λ q. get_or vb q 0;
      marked = marks_it mask7 3 vb closed_b 2 refl joins_b flags_b refl;
      area_is = refl;
      sx_is = refl;
      sy_is = refl;
      outline_is = refl;
      x0_is = (at_least mask7 3 vb closed_b 2 2 (column 3) refl tt, (2, b2, refl));
      y0_is = (at_least mask7 3 vb closed_b 2 0 (row 3) refl tt, (2, b2, refl));
      x1_is = (at_most mask7 3 vb closed_b 2 2 (column 3) refl tt, (2, b2, refl));
      y1_is = (at_most mask7 3 vb closed_b 2 0 (row 3) refl tt, (2, b2, refl));
    }

patch_c : PatchOf mask7 3 4 (record { area = 3; sx = 2; sy = 5; x0 = 0; y0 = 1; x1 = 1; y1 = 2; outline = 8 })
unfolding total sides side light all implies
patch_c =
    record {
      marks = λ q. get_or vc q 0;
      marked = marks_it mask7 3 vc closed_c 4 refl joins_c flags_c refl;
      area_is = refl;
      sx_is = refl;
      sy_is = refl;
      outline_is = refl;
      x0_is = (at_least mask7 3 vc closed_c 4 0 (column 3) refl tt, (6, d6, refl));
      y0_is = (at_least mask7 3 vc closed_c 4 1 (row 3) refl tt, (4, c4, refl));
      x1_is = (at_most mask7 3 vc closed_c 4 1 (column 3) refl tt, (4, c4, refl));
      y1_is = (at_most mask7 3 vc closed_c 4 2 (row 3) refl tt, (6, d6, refl));
    }

-- the list as `patches` prints it
abbrev pub list7 : List ℕ
list7 = 1 ∷ 0 ∷ 0 ∷ 0 ∷ 0 ∷ 0 ∷ 0 ∷ 4 ∷ 1 ∷ 2 ∷ 0 ∷ 2 ∷ 0 ∷ 2 ∷ 0 ∷ 4 ∷ 3 ∷ 2 ∷ 5 ∷ 0 ∷ 1 ∷ 1 ∷ 2 ∷ 8 ∷ []

abbrev pub firsts7 : List ℕ
firsts7 = 0 ∷ 2 ∷ 4 ∷ []

first7 : (j : ℕ) → j < 3 → First mask7 3 (get_or firsts7 j 0)
unfolding all implies
first7 zero l = (is1 refl, λ q j. omega arith)
first7 (suc zero) l = (is1 refl, at_least mask7 3 vb closed_b 2 2 (λ q. q) refl tt)
first7 (suc (suc zero)) l = (is1 refl, at_least mask7 3 vc closed_c 4 4 (λ q. q) refl tt)
first7 (suc (suc (suc j))) l = absurd (omega arith)

ordered7 : (i j : ℕ) → i < j → j < 3 → get_or firsts7 i 0 < get_or firsts7 j 0
ordered7 zero zero h l = absurd (omega arith)
ordered7 zero (suc zero) h l = lit< tt
ordered7 zero (suc (suc zero)) h l = lit< tt
ordered7 zero (suc (suc (suc j))) h l = absurd (omega arith)
ordered7 (suc zero) zero h l = absurd (omega arith)
ordered7 (suc zero) (suc zero) h l = absurd (omega arith)
ordered7 (suc zero) (suc (suc zero)) h l = lit< tt
ordered7 (suc zero) (suc (suc (suc j))) h l = absurd (omega arith)
ordered7 (suc (suc i)) zero h l = absurd (omega arith)
ordered7 (suc (suc i)) (suc zero) h l = absurd (omega arith)
ordered7 (suc (suc i)) (suc (suc zero)) h l = absurd (omega arith)
ordered7 (suc (suc i)) (suc (suc (suc j))) h l = absurd (omega arith)

records7 : (j : ℕ) → j < 3 → PatchOf mask7 3 (get_or firsts7 j 0) (patch_at list7 j)
unfolding patch_at
records7 zero l = patch_a
records7 (suc zero) l = patch_b
records7 (suc (suc zero)) l = patch_c
records7 (suc (suc (suc j))) l = absurd (omega arith)

every7 : (q : ℕ) → Dark mask7 q → (j : ℕ) × (j < 3) × Joined mask7 3 (get_or firsts7 j 0) q
every7 zero d = (0, lit< tt, a0)
every7 (suc zero) d = absurd (d refl)
every7 (suc (suc zero)) d = (1, lit< tt, b2)
every7 (suc (suc (suc zero))) d = absurd (d refl)
every7 (suc (suc (suc (suc zero)))) d = (2, lit< tt, c4)
every7 (suc (suc (suc (suc (suc zero))))) d = absurd (d refl)
every7 (suc (suc (suc (suc (suc (suc zero)))))) d = (2, lit< tt, d6)
every7 (suc (suc (suc (suc (suc (suc (suc zero))))))) d = (2, lit< tt, d7)
every7 (suc (suc (suc (suc (suc (suc (suc (suc zero)))))))) d = absurd (d refl)
every7 (suc (suc (suc (suc (suc (suc (suc (suc (suc q))))))))) d = absurd (d refl)

pub m7 : PatchList mask7 3 list7 list7 3 firsts7
unfolding total sides side light patch_at
m7 =
    record {
      many = refl;
      long = refl;
      first = first7;
      ordered = ordered7;
      records = records7;
      every = every7;
      areas = refl;
      outlines = refl;
      few = lit≤ tt;
      rest = refl;
    }

-- ---- M8 as a list
abbrev pub list8 : List ℕ
list8 = 7 ∷ 7 ∷ 8 ∷ 0 ∷ 0 ∷ 2 ∷ 2 ∷ 16 ∷ []

first8 : (j : ℕ) → j < 1 → First mask8 3 (get_or (0 ∷ []) j 0)
first8 zero l = (is1 refl, λ q j. omega arith)
first8 (suc j) l = absurd (omega arith)

records8 : (j : ℕ) → j < 1 → PatchOf mask8 3 (get_or (0 ∷ []) j 0) (patch_at list8 j)
unfolding patch_at
records8 zero l = m8
records8 (suc j) l = absurd (omega arith)

every8 : (q : ℕ) → Dark mask8 q → (j : ℕ) × (j < 1) × Joined mask8 3 (get_or (0 ∷ []) j 0) q
every8 q d = (0, lit< tt, joins_u q (inside mask8 3 mask8 closed_u q d) (flagged q d))
  where
    flagged : (q : ℕ) → Dark mask8 q → get_or mask8 q 0 ≡ 1
    flagged zero d = refl
    flagged (suc zero) d = absurd (d refl)
    flagged (suc (suc zero)) d = refl
    flagged (suc (suc (suc zero))) d = refl
    flagged (suc (suc (suc (suc zero)))) d = absurd (d refl)
    flagged (suc (suc (suc (suc (suc zero))))) d = refl
    flagged (suc (suc (suc (suc (suc (suc zero)))))) d = refl
    flagged (suc (suc (suc (suc (suc (suc (suc zero))))))) d = refl
    flagged (suc (suc (suc (suc (suc (suc (suc (suc zero)))))))) d = refl
    flagged (suc (suc (suc (suc (suc (suc (suc (suc (suc q))))))))) d = absurd (d refl)

pub m8_list : PatchList mask8 3 list8 list8 1 (0 ∷ [])
unfolding total sides side light patch_at
m8_list =
    record {
      many = refl;
      long = refl;
      first = first8;
      ordered = λ i j h l. absurd (omega arith);
      records = records8;
      every = every8;
      areas = refl;
      outlines = refl;
      few = lit≤ tt;
      rest = refl;
    }
