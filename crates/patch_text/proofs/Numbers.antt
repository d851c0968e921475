-- The decimal digits of a number; what was written, one piece after another. Assumes nothing.
use Prim.Native.Nat.{ℕ, suc, ◌+◌, ◌*◌, ◌/◌, ◌%◌, ◌^◌, ◌≤◌, ◌<◌}
use Rattle.std.specs.Fmt as Fmt
use Rattle.std.proofs.lemmas.Fmt.{decimal_from_appends, length-decimal-le}
use Rattle.base.specs.Loops.{table, joined}
use native.Mathlib.Omega.{arith}
use mathlib.Core.Path.{◌≡◌, sym, ap, ◌∙◌}
use mathlib.Core.List.{List, [], ◌∷◌, ◌++◌, append_assoc, append-nil}
use lib.Dec.{ltb}
use borrow.Author.Tests.{lt-ltb, le-ltb}
use Rattle.base.proofs.Pick.{pick_yes, pick_no}
use Rattle.base.proofs.Table.{table_more, length_table}
use Rattle.blobs.specs.declared.Blob.{Blob}
use native.Mathlib.Numerals.{add-one}
use lib.ListN.{length, set, take}
use lib.Seq.{take-suc-set}
use Rattle.patch_text.specs.Text.{blank, feed, spelled, decimal, field, record_line, record_lines, patch_text}
use Rattle.patch_text.specs.Steps.{Written}

-- ---- the digits of a number, the last first: `spelled k` has room for k of them
module _ (k : ℕ) (n : ℕ) where
  pub spelled_last : n < 10 → spelled (suc k) n ≡ (48 + n) ∷ []
  unfolding spelled
  spelled_last l = sym (pick_yes (ltb n 10) ((48 + n) ∷ []) _ (lt-ltb n 10 l))

  pub spelled_more : 10 ≤ n → spelled (suc k) n ≡ spelled k (n / 10) ++ ((48 + n % 10) ∷ [])
  unfolding spelled
  spelled_more l = sym (pick_no (ltb n 10) ((48 + n) ∷ []) _ (le-ltb n 10 l))

-- so they are what std prints
pub spelled_std : (n : ℕ) → n < 2 ^ 64 → Fmt.decimal n ≡ decimal n
unfolding decimal
spelled_std n l =
    sym (decimal_from_appends spelled record { one = spelled_last; more = spelled_more } 20 n l (length-decimal-le 20 n (omega arith) (omega arith) l))

-- ---- lines
pub lines_more : (l : List Blob) (b : Blob) → record_lines (l ++ (b ∷ [])) ≡ record_lines l ++ record_line b
unfolding record_lines
lines_more [] b = append-nil (record_line b)
lines_more (x ∷ l) b = ap (λ t. record_line x ++ t) (lines_more l b) ∙ sym (append_assoc (record_line x) (record_lines l) (record_line b))

-- ---- what was written up to a place is still there
pub written_more : (o o₁ o₂ : List ℕ) (at r s k j : ℕ) (t u : List ℕ) → Written o o₁ at r k t → Written o₁ o₂ r s j u → Written o o₂ at s (k + j) (t ++ u)
written_more o o₁ o₂ at r s k j t u a b =
    record {
      text = b.text ∙ ap (λ x. x ++ u) a.text ∙ append_assoc (take at o) t u;
      from = omega (arith, a.from, b.from);
      to = omega (arith, a.to, b.to);
    }

-- ---- a field for each number
pub written_field : (o o₁ o₂ : List ℕ) (at r s i : ℕ) (f : ℕ → List ℕ) → Written o o₁ at r (21 * i) (joined f i) → Written o₁ o₂ r s 21 (f i)
    → Written o o₂ at s (21 * (i + 1)) (joined f (i + 1))
unfolding joined
written_field o o₁ o₂ at r s i f a b =
    let w = written_more o o₁ o₂ at r s (21 * i) 21 (joined f i) (f i) a b in
    record { text = w.text ∙ ap (λ n. take at o ++ joined f n) (sym (add-one i)); from = w.from; to = omega (arith, w.to) }

-- ---- a number written
pub put_is : (o o₁ d : List ℕ) (at end n after : ℕ) → end < length o₁ → take end o₁ ≡ take at o ++ d → end ≡ at + length d → length d ≤ 20 → d ≡ decimal n
    → Written o (set o₁ end after) at (end + 1) 21 (field n after)
unfolding field
put_is o o₁ d at end n after l e ee f de =
    record {
      text =
          ap (λ x. take x (set o₁ end after)) (add-one end)
          ∙ take-suc-set o₁ end after l
          ∙ ap (λ x. x ++ (after ∷ [])) (e ∙ ap (λ x. take at o ++ x) de)
          ∙ append_assoc (take at o) (decimal n) (after ∷ []);
      from = omega arith;
      to = omega arith;
    }

-- ---- the records' lines
pub written_none : (o : List ℕ) (at : ℕ) (f : ℕ → Blob) → Written o o at at 0 (record_lines (table f 0))
unfolding record_lines table
written_none o at f = record { text = sym (append-nil (take at o)); from = omega arith; to = omega arith }

pub written_line : (o o₁ o₂ : List ℕ) (at r s j : ℕ) (f : ℕ → Blob) (b : Blob) → b ≡ f j → Written o o₁ at r (168 * j) (record_lines
    (table f j)) → Written o₁ o₂ r s 168 (record_line b)
    → Written o o₂ at s (168 * (j + 1)) (record_lines (table f (j + 1)))
written_line o o₁ o₂ at r s j f b e a c =
    let w = written_more o o₁ o₂ at r s (168 * j) 168 (record_lines (table f j)) (record_line b) a c in
    let t : record_lines (table f j) ++ record_line b ≡ record_lines (table f (j + 1)) =
    ap (λ x. record_lines (table f j) ++ record_line x) e ∙ sym (lines_more (table f j) (f j)) ∙ ap record_lines (sym (table_more f j) ∙ ap (table f) (sym (add-one j))) in
    record { text = w.text ∙ ap (λ x. take at o ++ x) t; from = w.from; to = omega (arith, w.to) }

-- ---- the whole list
pub listed_text : (o o₁ o₂ o₃ o₄ : List ℕ) (e₀ e₁ e₂ r w h n : ℕ) (f : ℕ → Blob) → Written o o₁ 0 e₀ 21 (field w blank)
    → Written o₁ o₂ e₀ e₁ 21 (field h blank) → Written o₂ o₃ e₁ e₂ 21 (field n feed)
    → Written o₃ o₄ e₂ r (168 * n) (record_lines (table f n)) → take r o₄ ≡ patch_text w h (table f n)
unfolding patch_text
listed_text o o₁ o₂ o₃ o₄ e₀ e₁ e₂ r w h n f a b c d =
    let x = written_more o o₁ o₂ 0 e₀ e₁ 21 21 (field w blank) (field h blank) a b in
    let y = written_more o o₂ o₃ 0 e₁ e₂ 42 21 (field w blank ++ field h blank) (field n feed) x c in
    let z = written_more o o₃ o₄ 0 e₂ r 63 (168 * n) (field w blank ++ field h blank ++ field n feed) (record_lines (table f n)) y d in
    z.text ∙ ap (λ k. field w blank ++ field h blank ++ field k feed ++ record_lines (table f n)) (sym (length_table f n))
