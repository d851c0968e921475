-- No mask has more patches than the checkerboard (specs/Most). Assumes nothing.
use Prim.Native.Nat.{ℕ, ◌*◌, ◌/◌, ◌≤◌, ◌<◌}
use native.Mathlib.Nat.{mul_comm}
use native.Mathlib.Omega.{arith}
use mathlib.Core.Path.{◌≡◌, sym, ap, subst, ◌∙◌}
use mathlib.Core.List.{List}
use mathlib.Core.Logic.{⊎_elim}
use lib.ListN.{length, get_or, take}
use Rattle.base.specs.Loops.{table}
use Rattle.base.proofs.Arith.{le_or_lt}
use Rattle.base.proofs.Table.{table_at, length_table, take_filled}
use Rattle.frame.specs.Refusals.{lowest_of}
use Rattle.frame.proofs.Held.{sides_held}
use Rattle.blobs.specs.Areas.{PatchAreas}
use Rattle.blobs.specs.Promises.{label_tests, Labelling}
use Rattle.blobs.specs.Patches.{Dark, Joined, First, PatchCount}
use Rattle.blobs.specs.Patches.Joined.{here}
use Rattle.blobs.proofs.Counts.{count_few}
use Rattle.blobs.proofs.Grid.{dark_inside}
use Rattle.blobs.proofs.Refusing.{passes}
use Rattle.blobs.proofs.Unique.{count_unique, list_count}
use Rattle.checkerboard.specs.Board.{square_at, board, reserved}
use Rattle.checkerboard.specs.Most.{MostAtEverySize, DrawnExactly, ReserveAtEverySize}
use Rattle.checkerboard.proofs.Refusing.{board_passes}
use Rattle.checkerboard.proofs.Board.{board_long, board_dark, board_even, joined_same, chosen, chosen_pair, chosen_even, chosen_only, chosen_in}

-- ---- exactly so many: the dark pixels of the pairs are the patches' first pixels
module _ (w h : ℕ) (o : 0 < w) where
  abbrev chosen_all : List ℕ
  chosen_all = table (chosen w) (reserved w h)

  chosen_at : (j : ℕ) → j < reserved w h → get_or chosen_all j 0 ≡ chosen w j
  chosen_at j l = table_at (chosen w) (reserved w h) j 0 l

  chosen_first : (j : ℕ) → j < reserved w h → First (board w h) w (chosen w j)
  chosen_first j l =
      (board_dark w h (chosen w j) (chosen_in w h j o l) (chosen_even w j o), λ q i. let e = joined_same w h o i in omega arith)

  chosen_rise : (i j : ℕ) → i < j → j < reserved w h → get_or chosen_all i 0 < get_or chosen_all j 0
  chosen_rise i j l b = omega (arith, chosen_at i (omega arith), chosen_at j b, (chosen_pair w i).1, (chosen_pair w j).0)

  chosen_every : (q : ℕ) → Dark (board w h) q → (j : ℕ) × (j < reserved w h) × Joined (board w h) w (get_or chosen_all j 0) q
  chosen_every q d =
      let e : chosen w (q / 2) ≡ q = chosen_only w q o (board_even w h q d) in
      let l : q / 2 < reserved w h = omega (arith, dark_inside (board w h) q d, board_long w h) in
      (q / 2, l, subst (λ p. Joined (board w h) w p q) (sym (chosen_at (q / 2) l ∙ e)) (here d))

  board_count : PatchCount (board w h) w (reserved w h)
  board_count =
      record {
        firsts = chosen_all;
        many = length_table (chosen w) (reserved w h);
        first = λ j l. subst (First (board w h) w) (sym (chosen_at j l)) (chosen_first j l);
        ordered = chosen_rise;
        every = chosen_every;
      }

-- ---- none has more
mask_few : (w h : ℕ) → 0 < w → (m : List ℕ) (n : ℕ) → length m ≡ w * h → PatchCount m w n → n ≤ reserved w h
mask_few w h o m n e a = omega (arith, count_few h o (e ∙ mul_comm w h) a)

pub most_patches : MostAtEverySize
most_patches w h o p = record { exactly = board_count w h o; none_more = mask_few w h o }

-- ---- what is drawn
pub drawn_exactly : DrawnExactly
drawn_exactly w h mask mask' v d e =
    let z = sym d.given ∙ e in
    let p = board_passes w h (length mask) z in
    let s = sides_held w h p.0 in
    let t : take (w * h) mask' ≡ board w h = ap (take (w * h)) (d.accepted z) ∙ take_filled (square_at w) (w * h) 0 mask p.1 in
    subst (λ m. PatchCount m w (reserved w h)) (sym t) (board_count w h s.w_least)

-- ---- what is labelled
labelled_few : (w h : ℕ) (m : List ℕ) (before after : PatchAreas) (v n waited : ℕ) → Labelling m w h before after v n waited → n ≤ reserved w h
labelled_few w h m before after v n waited l = ⊎_elim
    (λ z. let z : lowest_of (label_tests m w h before) ≡ 0 = omega arith in
    let p = passes w h (length m) _ _ _ z in
    mask_few w h (sides_held w h p.0).w_least m n p.1 (list_count m w (l.accepted z).records))
    (λ r. omega (arith, (l.untouched r).1))
    (le_or_lt (lowest_of (label_tests m w h before)) 0)

board_labelled : (w h : ℕ) (before after : PatchAreas) (v n waited : ℕ) → Labelling (board w h) w h before after v n waited → v ≡ 0 → n ≡ reserved w h
board_labelled w h before after v n waited l e =
    let z = sym l.given ∙ e in
    let p = passes w h (length (board w h)) _ _ _ z in
    count_unique (board w h) w (list_count (board w h) w (l.accepted z).records) (board_count w h (sides_held w h p.0).w_least)

pub labelled_count : ReserveAtEverySize
labelled_count w h = record { all_taken = board_labelled w h; enough = labelled_few w h }
