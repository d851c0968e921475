-- The checkerboard's dark pixels: no two share an edge, and of each pair 2·j, 2·j + 1 one is dark. Assumes nothing.
use Prim.Native.Nat.{ℕ, ◌+◌, ◌*◌, ◌/◌, ◌%◌, ◌≤◌, ◌<◌}
use native.Mathlib.Nat.{add-mul, mul-add, mul-one, mod-lt, div-add-mod'}
use native.Mathlib.Decide.{dec_lt, ℕ_discrete}
use native.Mathlib.Omega.{arith}
use mathlib.Core.Path.{◌≡◌, refl, ap, ◌∙◌}
use mathlib.Core.Logic.{◌⊎◌, inl, inr}
use lib.Arith.{digits_div, digits_mod}
use lib.Dec.{eqb}
use lib.ListN.{length}
use Rattle.base.specs.Loops.{by_row}
use Rattle.base.proofs.Pick.{cond_elim}
use Rattle.base.proofs.Table.{table_at, length_table}
use Rattle.blobs.specs.Patches.{Dark, Touch, Joined}
use Rattle.blobs.specs.Patches.Touch.{right, left, under, over}
use Rattle.blobs.specs.Patches.Joined.{here, step}
use Rattle.blobs.proofs.Grid.{dark_inside, next_col}
use Rattle.blobs.proofs.Joins.{joined_dark}
use Rattle.checkerboard.specs.Board.{square, square_at, board, reserved}
use Rattle.checkerboard.proofs.Steps.{steps, dark_even, even_dark}

-- ---- one pixel

pub square_most : (w i : ℕ) → square_at w i ≤ 1
unfolding square_at by_row square
square_most w i = cond_elim (λ z. z ≤ 1) (eqb (steps w i % 2) 0) 1 0 (λ e. omega arith) (λ e. omega arith)

-- ---- a neighbour is one step further or nearer
next_row_same : (p w : ℕ) → p % w + 1 < w → (p + 1) / w ≡ p / w
next_row_same p w l =
    let e : p + 1 ≡ p / w * w + (p % w + 1) = omega (arith, div-add-mod' p w) in
    ap (λ i. i / w) e ∙ digits_div (p / w) l

steps_right : (p w : ℕ) → p % w + 1 < w → steps w (p + 1) ≡ steps w p + 1
steps_right p w l = omega (arith, next_col p w l, next_row_same p w l)

steps_under : (p w : ℕ) → 0 < w → steps w (p + w) ≡ steps w p + 1
steps_under p w o =
    let e : p + w ≡ (p / w + 1) * w + p % w = omega (arith, div-add-mod' p w, add-mul (p / w) 1 w) in
    let x : (p + w) % w ≡ p % w = ap (λ i. i % w) e ∙ digits_mod (p / w + 1) (mod-lt p o) in
    let y : (p + w) / w ≡ p / w + 1 = ap (λ i. i / w) e ∙ digits_div (p / w + 1) (mod-lt p o) in
    omega arith

even_apart : {w p q : ℕ} → 0 < w → Touch w p q → steps w p % 2 ≡ 0 → steps w q % 2 ≡ 0 → ⊥
even_apart {w} {p} {q} o (right e l) a b = omega (arith, ap (steps w) e, steps_right p w l)
even_apart {w} {p} {q} o (left e l) a b = omega (arith, ap (steps w) e, steps_right q w l)
even_apart {w} {p} {q} o (under e) a b = omega (arith, ap (steps w) e, steps_under p w o)
even_apart {w} {p} {q} o (over e) a b = omega (arith, ap (steps w) e, steps_under q w o)

-- ---- the mask
module _ (w h : ℕ) where
  pub board_long : length (board w h) ≡ w * h
  board_long = length_table (square_at w) (w * h)

  pub board_dark : (q : ℕ) → q < w * h → steps w q % 2 ≡ 0 → Dark (board w h) q
  board_dark q l e z = omega (arith, table_at (square_at w) (w * h) q 0 l, even_dark w q e)

  pub board_even : (q : ℕ) → Dark (board w h) q → steps w q % 2 ≡ 0
  board_even q d =
      let l : q < w * h = omega (arith, dark_inside (board w h) q d, board_long) in
      dark_even w q (λ z. d (table_at (square_at w) (w * h) q 0 l ∙ z))

  -- each dark pixel is a patch of its own
  pub joined_same : {p q : ℕ} → 0 < w → Joined (board w h) w p q → p ≡ q
  joined_same o (here d) = refl
  joined_same o (step j t d) = absurd (even_apart o t (board_even _ (joined_dark j)) (board_even _ d))

-- ---- of the pixels 2·j and 2·j + 1 one is dark: where w is even they are neighbours in a row, and where it is odd a pixel is dark when its index is even
half_of : (w : ℕ) → (w ≡ w / 2 + w / 2) ⊎ (w ≡ w / 2 + w / 2 + 1)
half_of w = go (ℕ_discrete (w % 2) 0)
  where
    go : Dec (w % 2 ≡ 0) → (w ≡ w / 2 + w / 2) ⊎ (w ≡ w / 2 + w / 2 + 1)
    go (yes e) = inl (omega arith)
    go (no n) = inr (omega arith)

odd_steps : (w v i : ℕ) → w ≡ v + v + 1 → steps w i % 2 ≡ i % 2
odd_steps w v i e =
    let d : ℕ = i / w in
    let m : d * w ≡ d * v + d * v + d = ap (λ (z : ℕ). d * z) e ∙ mul-add d (v + v) 1 ∙ omega (arith, mul-add d v v, mul-one d) in
    omega (arith, div-add-mod' i w)

even_row : (w v j : ℕ) → 0 < w → w ≡ v + v → 2 * j % w + 1 < w
even_row w v j o e =
    let d : ℕ = 2 * j / w in
    let m : d * w ≡ d * v + d * v = ap (λ (z : ℕ). d * z) e ∙ mul-add d v v in
    omega (arith, div-add-mod' (2 * j) w, mod-lt (2 * j) o)

pair_one : (w j : ℕ) → 0 < w → steps w (2 * j) % 2 + steps w (2 * j + 1) % 2 ≡ 1
pair_one w j o = go (half_of w)
  where
    go : (w ≡ w / 2 + w / 2) ⊎ (w ≡ w / 2 + w / 2 + 1) → steps w (2 * j) % 2 + steps w (2 * j + 1) % 2 ≡ 1
    go (inl e) = omega (arith, steps_right (2 * j) w (even_row w (w / 2) j o e))
    go (inr e) = omega (arith, odd_steps w (w / 2) (2 * j) e, odd_steps w (w / 2) (2 * j + 1) e)

-- ---- the dark pixel of pair j
unfoldable pub chosen : ℕ → ℕ → ℕ
chosen w j = 2 * j + steps w (2 * j) % 2

-- it is one of the two
pub chosen_pair : (w j : ℕ) → (2 * j ≤ chosen w j) × (chosen w j ≤ 2 * j + 1)
unfolding chosen
chosen_pair w j = (omega arith, omega arith)

pub chosen_even : (w j : ℕ) → 0 < w → steps w (chosen w j) % 2 ≡ 0
unfolding chosen
chosen_even w j o = go (ℕ_discrete (steps w (2 * j) % 2) 0)
  where
    go : Dec (steps w (2 * j) % 2 ≡ 0) → steps w (2 * j + steps w (2 * j) % 2) % 2 ≡ 0
    go (yes e) = let c : 2 * j + steps w (2 * j) % 2 ≡ 2 * j = omega arith in ap (λ i. steps w i % 2) c ∙ e
    go (no n) = let c : 2 * j + steps w (2 * j) % 2 ≡ 2 * j + 1 = omega arith in ap (λ i. steps w i % 2) c ∙ omega (arith, pair_one w j o)

-- and the only one
pub chosen_only : (w q : ℕ) → 0 < w → steps w q % 2 ≡ 0 → chosen w (q / 2) ≡ q
unfolding chosen
chosen_only w q o e = go (ℕ_discrete (q % 2) 0)
  where
    go : Dec (q % 2 ≡ 0) → 2 * (q / 2) + steps w (2 * (q / 2)) % 2 ≡ q
    go (yes z) = let c : 2 * (q / 2) ≡ q = omega arith in omega (arith, ap (steps w) c)
    go (no n) = let c : 2 * (q / 2) + 1 ≡ q = omega arith in omega (arith, ap (steps w) c, pair_one w (q / 2) o)

-- the last pair may have one pixel only: both sides are odd, and that pixel is dark
pub chosen_in : (w h j : ℕ) → 0 < w → j < reserved w h → chosen w j < w * h
unfolding chosen
chosen_in w h j o l = go (dec_lt (2 * j + 1) (w * h)) (half_of w)
  where
    go : Dec (2 * j + 1 < w * h) → (w ≡ w / 2 + w / 2) ⊎ (w ≡ w / 2 + w / 2 + 1) → 2 * j + steps w (2 * j) % 2 < w * h
    go (yes y) e = omega arith
    go (no n) (inl e) = absurd (omega (arith, ap (λ (z : ℕ). z * h) e, add-mul (w / 2) (w / 2) h))
    go (no n) (inr e) = omega (arith, odd_steps w (w / 2) (2 * j) e)
