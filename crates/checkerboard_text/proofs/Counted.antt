-- `patches` reads what `most_patches` prints (specs/Counted). Assumes nothing.
use Prim.Native.Nat.{ℕ, ◌*◌, ◌≤◌, ◌<◌}
use native.Mathlib.Decide.{dec_lt}
use native.Mathlib.Omega.{arith}
use mathlib.Core.Path.{◌≡◌, refl, sym, ap, ap₂, subst, ◌∙◌}
use mathlib.Core.List.{List, ◌++◌}
use mathlib.Core.Logic.{inl}
use lib.ListN.{length, get_or, get_or-eq_default}
use Rattle.base.specs.Loops.{table}
use Rattle.base.proofs.Table.{table_at, length_table}
use Rattle.blobs.specs.Patches.{PatchCount, patch_at}
use Rattle.blobs.proofs.Unique.{count_unique, list_count}
use Rattle.patch_text.specs.Text.{blank, feed, field, mask_text, patch_text, record_lines, Reads}
use Rattle.patch_text.specs.Text as patches
use Rattle.patch_text.specs.Text.Answered.{accepted as listed, refused as unlisted}
use Rattle.patch_text.proofs.Texts.{reads_unique}
use Rattle.checkerboard.specs.Board.{square_at, board, reserved}
use Rattle.checkerboard.proofs.Board.{square_most, board_long}
use Rattle.checkerboard.proofs.Most.{most_patches}
use Rattle.checkerboard_text.specs.Text.{Asks, Answered}
use Rattle.checkerboard_text.specs.Text.Answered.{accepted, refused}
use Rattle.checkerboard_text.specs.Counted.{count_line, Counted, PatchesCounts}
use Rattle.checkerboard_text.proofs.Sizes.{asks_unique}

-- a text has one answer
pub answer_unique : {b t u : List ℕ} → Answered b t → Answered b u → t ≡ u
answer_unique (accepted w h a e) (accepted w' h' a' e') = let s = asks_unique a a' in e ∙ ap₂ (λ x y. mask_text x y (board x y)) s.0 s.1 ∙ sym e'
answer_unique (accepted w h a e) (refused f e') = absurd (f w h a)
answer_unique (refused f e) (accepted w h a e') = absurd (f w h a)
answer_unique (refused f e) (refused f' e') = e ∙ sym e'

-- ---- the printed mask is one that `patches` reads
board_flags : (w h q : ℕ) → get_or (board w h) q 0 ≤ 1
board_flags w h q = go (dec_lt q (w * h))
  where
    go : Dec (q < w * h) → get_or (board w h) q 0 ≤ 1
    go (yes l) = omega (arith, table_at (square_at w) (w * h) q 0 l, square_most w q)
    go (no o) = let z : get_or (board w h) q 0 ≡ 0 = get_or-eq_default (board w h) 0 (omega (arith, board_long w h)) in omega arith

module _ {b : List ℕ} {w h : ℕ} (a : Asks b w h) where
  board_reads : Reads (mask_text w h (board w h)) w h (board w h)
  board_reads =
      record {
        wide = a.wide;
        narrow = a.narrow;
        high = a.high;
        low = a.low;
        long = board_long w h;
        flags = board_flags w h;
        text = inl refl;
      }

  -- its list begins with the count
  board_counts : (u : List ℕ) → patches.Answered (mask_text w h (board w h)) u → (rest : List ℕ) × (u ≡ count_line w h ++ rest)
  unfolding patch_text
  board_counts u (unlisted f e) = absurd (f w h (board w h) board_reads)
  board_counts u (listed w' h' m r p) =
      let e = reads_unique r board_reads in
      let c = list_count m w' p.patches in
      let d : PatchCount (board w h) w p.count = subst (λ x. PatchCount x w p.count) e.2 (subst (λ x. PatchCount m x p.count) e.0 c) in
      let n : p.count ≡ reserved w h = count_unique (board w h) w d (most_patches w h a.wide a.high).exactly in
      let l = table (patch_at p.list) p.count in (
        record_lines l,
        p.text
            ∙ ap₂ (λ x y. field x blank ++ field y blank ++ field (length l) feed ++ record_lines l) e.0 e.1
            ∙ ap (λ k. field w blank ++ field h blank ++ field k feed ++ record_lines l) (length_table (patch_at p.list) p.count ∙ n),
      )

pub patches_counts : PatchesCounts
patches_counts b t w h a c =
    let e = answer_unique c (accepted w h a refl) in
    subst (Counted w h) (sym e) (record { reads = board_reads a; counts = board_counts a })
