-- `merge::records::same_record` meets its contract. Assumes nothing.
use native.Mathlib.Omega.{arith}
use mathlib.Core.List.{List}
use mathlib.Core.Path.{◌≡◌, sym, ◌∙◌}
use Prim.Native.Nat.{ℕ, ◌+◌, ◌-◌, ◌*◌, ◌≤◌, ◌<◌}
use lib.ListN.{length, get_or, take, drop, length-drop}
use lib.Seq.{length-take-le, get_or-take, get_or-drop}
use Rattle.std.proofs.lemmas.Bool.Decides.{Decides-eqb}
use Rattle.std.proofs.lemmas.Slice.Eq.{slice_eq-Decides}
use Rattle.book.specs.Layout.{book_length}
use Rattle.merge.specs.Merged.{record_in, same_record}
use Rattle.merge.proofs.Books.{byte_in}
use Rattle.merge.proofs.Same.{bytes_same}
use Rattle.merge.proofs.records.same_record.Goals as goal

-- the first n bytes of record j, as the code cuts them out
module _ (b : List ℕ) (j n : ℕ) (few : n ≤ 120) (h : book_length (j + 1) ≤ length b) where
  abbrev cut : List ℕ
  cut = take (16 + 120 * j + n - (16 + 120 * j)) (drop (16 + 120 * j) b)

  cut_long : length cut ≡ n
  cut_long = length-take-le (16 + 120 * j + n - (16 + 120 * j)) (drop (16 + 120 * j) b) (omega (arith, length-drop (16 + 120 * j) b)) ∙ omega arith

  byte_cut : (k : ℕ) → k < n → get_or cut k 0 ≡ get_or (record_in b j) k 0
  byte_cut k l =
      get_or-take (16 + 120 * j + n - (16 + 120 * j)) (drop (16 + 120 * j) b) k 0 (omega arith)
      ∙ get_or-drop (16 + 120 * j) b k 0
      ∙ sym (byte_in b j k (omega arith))

pub returns : goal.returns
unfolding same_record
returns c =
    let a = c.args in
    let h = c.requires in
    bytes_same 120 _ _ _ _ (cut_long _ a.i 120 (omega arith) h.0) (cut_long _ a.j 120 (omega arith) h.1)
    (slice_eq-Decides Decides-eqb _ _ _ c.eq.ensures) (byte_cut _ a.i 120 (omega arith) h.0) (byte_cut _ a.j 120 (omega arith) h.1)
