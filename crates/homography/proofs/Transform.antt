-- Over exact numbers the eight rows of the direct linear transform hold exactly when the matrix takes each point to its own target, in homogeneous
-- coordinates; `apply` has the same lines, and the answer the same layout. Assumes nothing.
use mathlib.Core.Path.{◌≡◌, refl, sym, ap, ◌∙◌}
use mathlib.Core.Logic.{◌↔◌}
use Prim.Native.Nat.{ℕ, zero, suc, ◌<◌}
use native.Mathlib.Omega.{arith}
use lib.Dec.{lit<}
use Rattle.base.specs.Loops.{table}
use Rattle.homography.specs.Arithmetic.{Arithmetic, CommutativeRing}
use Rattle.homography.specs.Elimination.{solution, last_column}
use Rattle.homography.specs.Equations.{equations_over, homography_over}
use Rattle.homography.specs.Homography.{line, row_times, apply}
use Rattle.homography.specs.Rationals.{ℚ, exact, value_of}
use Rattle.homography.specs.Transform.{total, RowHolds, TransformIs, RationalTransformIs, AppliesLines, LaidOutByRows}
use Rattle.homography.proofs.Ring as ring
use Rattle.homography.proofs.Rationals.{rational_ring}

module _ {A : Type 0} (N : Arithmetic A) (R : CommutativeRing N) where
  open N use {nought as 𝟘, one as 𝟙, plus as ◌⊞◌, times as ◌⊠◌, minus as ⊟◌}

  infixl 65 ◌⊞◌
  infixl 70 ◌⊠◌
  infix 75 ⊟◌
  gone : (a g : A) → a ⊞ 𝟘 ⊠ g ≡ a
  gone a g = ap (λ z. a ⊞ z) (ring.nought_times N R g) ∙ R.plus_nought a

  -- −u·x·g is the negative of u·(g·x)
  negative : (u x g : A) → ⊟ u ⊠ x ⊠ g ≡ ⊟ (u ⊠ (g ⊠ x))
  negative u x g =
      ap (λ z. z ⊠ g) (ring.minus_times N R u x)
      ∙ ring.minus_times N R (u ⊠ x) g
      ∙ ap ⊟◌ (R.times_assoc u x g ∙ ap (λ z. u ⊠ z) (R.times_comm x g))

  -- the right side, multiplied out
  scaled : (u a b w : A) → w ≡ 𝟙 → u ⊠ (a ⊞ b ⊞ w) ≡ u ⊞ (u ⊠ a ⊞ u ⊠ b)
  scaled u a b w e =
      R.times_plus u (a ⊞ b) w
      ∙ ap (λ z. z ⊞ u ⊠ w) (R.times_plus u a b)
      ∙ ap (λ z. u ⊠ a ⊞ u ⊠ b ⊞ z) (ap (λ z. u ⊠ z) e ∙ R.times_one u)
      ∙ R.plus_comm (u ⊠ a ⊞ u ⊠ b) u

  -- L + −P + −Q = u exactly when L = u + (P + Q)
  both : (L P Q : A) → L ⊞ ⊟ P ⊞ ⊟ Q ≡ L ⊞ ⊟ (P ⊞ Q)
  both L P Q = R.plus_assoc L (⊟ P) (⊟ Q) ∙ ap (λ z. L ⊞ z) (ring.minus_plus N R P Q)

  moved : (L P Q u : A) → L ⊞ ⊟ P ⊞ ⊟ Q ≡ u → L ≡ u ⊞ (P ⊞ Q)
  moved L P Q u h = sym (ring.minus_cancel N R L (P ⊞ Q)) ∙ ap (λ z. z ⊞ (P ⊞ Q)) (sym (both L P Q) ∙ h)

  back : (L P Q u : A) → L ≡ u ⊞ (P ⊞ Q) → L ⊞ ⊟ P ⊞ ⊟ Q ≡ u
  back L P Q u h = both L P Q ∙ ap (λ z. z ⊞ ⊟ (P ⊞ Q)) h ∙ ring.plus_cancel N R u (P ⊞ Q)

  module _ (x y u : A) (m : ℕ → A) (last : m 8 ≡ 𝟙) where
    -- the row of u, and of v
    abbrev sum_u : A
    sum_u = 𝟘 ⊞ x ⊠ m 0 ⊞ y ⊠ m 1 ⊞ 𝟙 ⊠ m 2 ⊞ 𝟘 ⊠ m 3 ⊞ 𝟘 ⊠ m 4 ⊞ 𝟘 ⊠ m 5 ⊞ ⊟ u ⊠ x ⊠ m 6 ⊞ ⊟ u ⊠ y ⊠ m 7

    abbrev sum_v : A
    sum_v = 𝟘 ⊞ 𝟘 ⊠ m 0 ⊞ 𝟘 ⊠ m 1 ⊞ 𝟘 ⊠ m 2 ⊞ x ⊠ m 3 ⊞ y ⊠ m 4 ⊞ 𝟙 ⊠ m 5 ⊞ ⊟ u ⊠ x ⊠ m 6 ⊞ ⊟ u ⊠ y ⊠ m 7

    -- a row of the matrix, from the terms of an equation
    front : (a b c : A) → 𝟘 ⊞ x ⊠ a ⊞ y ⊠ b ⊞ 𝟙 ⊠ c ≡ a ⊠ x ⊞ b ⊠ y ⊞ c
    front a b c =
        ap (λ z. z ⊞ y ⊠ b ⊞ 𝟙 ⊠ c) (ring.nought_plus N R (x ⊠ a) ∙ R.times_comm x a)
        ∙ ap (λ z. a ⊠ x ⊞ z ⊞ 𝟙 ⊠ c) (R.times_comm y b)
        ∙ ap (λ z. a ⊠ x ⊞ b ⊠ y ⊞ z) (ring.one_times N R c)

    -- .. and the terms with u
    behind : (L : A) → L ⊞ ⊟ u ⊠ x ⊠ m 6 ⊞ ⊟ u ⊠ y ⊠ m 7 ≡ L ⊞ ⊟ (u ⊠ (m 6 ⊠ x)) ⊞ ⊟ (u ⊠ (m 7 ⊠ y))
    behind L =
        ap (λ z. L ⊞ z ⊞ ⊟ u ⊠ y ⊠ m 7) (negative u x (m 6)) ∙ ap (λ z. L ⊞ ⊟ (u ⊠ (m 6 ⊠ x)) ⊞ z) (negative u y (m 7))

    -- the zeros of both rows gone
    clean_u : sum_u ≡ line N m 0 x y ⊞ ⊟ u ⊠ x ⊠ m 6 ⊞ ⊟ u ⊠ y ⊠ m 7
    clean_u =
        ap (λ z. z ⊞ ⊟ u ⊠ x ⊠ m 6 ⊞ ⊟ u ⊠ y ⊠ m 7) (gone _ (m 5) ∙ gone _ (m 4) ∙ gone _ (m 3) ∙ front (m 0) (m 1) (m 2))

    clean_v : sum_v ≡ line N m 1 x y ⊞ ⊟ u ⊠ x ⊠ m 6 ⊞ ⊟ u ⊠ y ⊠ m 7
    clean_v =
        ap (λ z. z ⊞ x ⊠ m 3 ⊞ y ⊠ m 4 ⊞ 𝟙 ⊠ m 5 ⊞ ⊟ u ⊠ x ⊠ m 6 ⊞ ⊟ u ⊠ y ⊠ m 7) (gone _ (m 2) ∙ gone _ (m 1) ∙ gone _ (m 0))
        ∙ ap (λ z. z ⊞ ⊟ u ⊠ x ⊠ m 6 ⊞ ⊟ u ⊠ y ⊠ m 7) (front (m 3) (m 4) (m 5))

    holds : (L s : A) → s ≡ L ⊞ ⊟ u ⊠ x ⊠ m 6 ⊞ ⊟ u ⊠ y ⊠ m 7 → (s ≡ u) ↔ (L ≡ u ⊠ line N m 2 x y)
    holds L s e = (
      λ h. moved L (u ⊠ (m 6 ⊠ x)) (u ⊠ (m 7 ⊠ y)) u (sym (e ∙ behind L) ∙ h) ∙ sym (scaled u (m 6 ⊠ x) (m 7 ⊠ y) (m 8) last),
      λ h. e ∙ behind L ∙ back L (u ⊠ (m 6 ⊠ x)) (u ⊠ (m 7 ⊠ y)) u (h ∙ scaled u (m 6 ⊠ x) (m 7 ⊠ y) (m 8) last),
    )

    -- the row of u holds exactly when (the first row) · (x, y, 1) = u · (the last row) · (x, y, 1); the row of v with the second row
    row_u_lem : (sum_u ≡ u) ↔ (line N m 0 x y ≡ u ⊠ line N m 2 x y)
    row_u_lem = holds (line N m 0 x y) sum_u clean_u

    row_v : (sum_v ≡ u) ↔ (line N m 1 x y ≡ u ⊠ line N m 2 x y)
    row_v = holds (line N m 1 x y) sum_v clean_v

-- what holds for each of eight rows
pub eight : (P : ℕ → Type 0) → P 0 → P 1 → P 2 → P 3 → P 4 → P 5 → P 6 → P 7 → (r : ℕ) → r < 8 → P r
eight P a b c d e f g h zero l = a
eight P a b c d e f g h (suc zero) l = b
eight P a b c d e f g h (suc (suc zero)) l = c
eight P a b c d e f g h (suc (suc (suc zero))) l = d
eight P a b c d e f g h (suc (suc (suc (suc zero)))) l = e
eight P a b c d e f g h (suc (suc (suc (suc (suc zero))))) l = f
eight P a b c d e f g h (suc (suc (suc (suc (suc (suc zero)))))) l = g
eight P a b c d e f g h (suc (suc (suc (suc (suc (suc (suc zero))))))) l = h
eight P a b c d e f g h (suc (suc (suc (suc (suc (suc (suc (suc r)))))))) l = absurd (omega arith)

pub transform_is : TransformIs
unfolding equations_over total
transform_is A N R num src dst m last =
    let u0 = row_u_lem N R (num src.tl.x) (num src.tl.y) (num dst.tl.x) m last in
    let v0 = row_v N R (num src.tl.x) (num src.tl.y) (num dst.tl.y) m last in
    let u1 = row_u_lem N R (num src.tr.x) (num src.tr.y) (num dst.tr.x) m last in
    let v1 = row_v N R (num src.tr.x) (num src.tr.y) (num dst.tr.y) m last in
    let u2 = row_u_lem N R (num src.br.x) (num src.br.y) (num dst.br.x) m last in
    let v2 = row_v N R (num src.br.x) (num src.br.y) (num dst.br.y) m last in
    let u3 = row_u_lem N R (num src.bl.x) (num src.bl.y) (num dst.bl.x) m last in
    let v3 = row_v N R (num src.bl.x) (num src.bl.y) (num dst.bl.y) m last in (
      λ f. (
        (u0.0 (f 0 (lit< tt)), v0.0 (f 1 (lit< tt))),
        (u1.0 (f 2 (lit< tt)), v1.0 (f 3 (lit< tt))),
        (u2.0 (f 4 (lit< tt)), v2.0 (f 5 (lit< tt))),
        (u3.0 (f 6 (lit< tt)), v3.0 (f 7 (lit< tt))),
      ),
      λ t.
          eight (RowHolds N (equations_over N num src dst) m)
          (u0.1 t.0.0) (v0.1 t.0.1) (u1.1 t.1.0) (v1.1 t.1.1)
          (u2.1 t.2.0) (v2.1 t.2.1) (u3.1 t.3.0) (v3.1 t.3.1),
    )

pub rational_transform_is : RationalTransformIs
rational_transform_is prefers refuses src dst m last = transform_is ℚ (exact prefers refuses) (rational_ring prefers refuses) value_of src dst m last

-- ---- `apply` and the layout, by definition
pub applies_lines : AppliesLines
unfolding apply row_times
applies_lines h p = refl

pub laid_out_by_rows : LaidOutByRows
unfolding homography_over solution last_column table
laid_out_by_rows A N num src dst = (eight _ refl refl refl refl refl refl refl refl, refl)
