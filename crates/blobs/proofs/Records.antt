-- The flat list: what a stored record leaves of each record, and the list as a table of records. Assumes nothing.
use Prim.Native.Nat.{ℕ, ◌+◌, ◌*◌, ◌≤◌, ◌<◌}
use native.Mathlib.Numerals.{add-one}
use native.Mathlib.Omega.{arith}
use mathlib.Core.Path.{◌≡◌, ap, ap₂, ◌∙◌}
use mathlib.Core.List.{List, [], ◌∷◌, ◌++◌}
use lib.ListN.{length, get_or, set, drop, length-set}
use lib.Seq.{get_or-set_same, get_or-set_other, drop-set-lt}
use Rattle.base.specs.Loops.{table}
use Rattle.base.proofs.Table.{table_more, table_cong}
use Rattle.blobs.specs.declared.Blob.{Blob}
use Rattle.blobs.specs.Patches.{record_length, patch_at, stored}

-- ---- eight stores in a row
module _ (l : List ℕ) (b v0 v1 v2 v3 v4 v5 v6 v7 : ℕ) where
  abbrev l1 : List ℕ
  l1 = set l b v0

  abbrev l2 : List ℕ
  l2 = set l1 (b + 1) v1

  abbrev l3 : List ℕ
  l3 = set l2 (b + 2) v2

  abbrev l4 : List ℕ
  l4 = set l3 (b + 3) v3

  abbrev l5 : List ℕ
  l5 = set l4 (b + 4) v4

  abbrev l6 : List ℕ
  l6 = set l5 (b + 5) v5

  abbrev l7 : List ℕ
  l7 = set l6 (b + 6) v6

  abbrev l8 : List ℕ
  l8 = set l7 (b + 7) v7

  out : (i : ℕ) → i < b → get_or l8 i 0 ≡ get_or l i 0
  out i c =
      get_or-set_other l7 (b + 7) i v7 0 (λ x. omega arith)
      ∙ get_or-set_other l6 (b + 6) i v6 0 (λ x. omega arith)
      ∙ get_or-set_other l5 (b + 5) i v5 0 (λ x. omega arith)
      ∙ get_or-set_other l4 (b + 4) i v4 0 (λ x. omega arith)
      ∙ get_or-set_other l3 (b + 3) i v3 0 (λ x. omega arith)
      ∙ get_or-set_other l2 (b + 2) i v2 0 (λ x. omega arith)
      ∙ get_or-set_other l1 (b + 1) i v1 0 (λ x. omega arith)
      ∙ get_or-set_other l b i v0 0 (λ x. omega arith)

  rest : (n : ℕ) → b + 8 ≤ n → drop n l8 ≡ drop n l
  rest n h =
      drop-set-lt n l7 (b + 7) v7 (omega arith)
      ∙ drop-set-lt n l6 (b + 6) v6 (omega arith)
      ∙ drop-set-lt n l5 (b + 5) v5 (omega arith)
      ∙ drop-set-lt n l4 (b + 4) v4 (omega arith)
      ∙ drop-set-lt n l3 (b + 3) v3 (omega arith)
      ∙ drop-set-lt n l2 (b + 2) v2 (omega arith)
      ∙ drop-set-lt n l1 (b + 1) v1 (omega arith)
      ∙ drop-set-lt n l b v0 (omega arith)

  long : length l8 ≡ length l
  long = simp length-set

  module _ (h : b + 8 ≤ length l) where
    p0 : get_or l8 b 0 ≡ v0
    p0 =
        get_or-set_other l7 (b + 7) b v7 0 (λ x. omega arith)
        ∙ get_or-set_other l6 (b + 6) b v6 0 (λ x. omega arith)
        ∙ get_or-set_other l5 (b + 5) b v5 0 (λ x. omega arith)
        ∙ get_or-set_other l4 (b + 4) b v4 0 (λ x. omega arith)
        ∙ get_or-set_other l3 (b + 3) b v3 0 (λ x. omega arith)
        ∙ get_or-set_other l2 (b + 2) b v2 0 (λ x. omega arith)
        ∙ get_or-set_other l1 (b + 1) b v1 0 (λ x. omega arith)
        ∙ get_or-set_same l b v0 0 (omega arith)

    p1 : get_or l8 (b + 1) 0 ≡ v1
    p1 =
        get_or-set_other l7 (b + 7) (b + 1) v7 0 (λ x. omega arith)
        ∙ get_or-set_other l6 (b + 6) (b + 1) v6 0 (λ x. omega arith)
        ∙ get_or-set_other l5 (b + 5) (b + 1) v5 0 (λ x. omega arith)
        ∙ get_or-set_other l4 (b + 4) (b + 1) v4 0 (λ x. omega arith)
        ∙ get_or-set_other l3 (b + 3) (b + 1) v3 0 (λ x. omega arith)
        ∙ get_or-set_other l2 (b + 2) (b + 1) v2 0 (λ x. omega arith)
        ∙ get_or-set_same l1 (b + 1) v1 0 (simp length-set (omega arith))

    p2 : get_or l8 (b + 2) 0 ≡ v2
    p2 =
        get_or-set_other l7 (b + 7) (b + 2) v7 0 (λ x. omega arith)
        ∙ get_or-set_other l6 (b + 6) (b + 2) v6 0 (λ x. omega arith)
        ∙ get_or-set_other l5 (b + 5) (b + 2) v5 0 (λ x. omega arith)
        ∙ get_or-set_other l4 (b + 4) (b + 2) v4 0 (λ x. omega arith)
        ∙ get_or-set_other l3 (b + 3) (b + 2) v3 0 (λ x. omega arith)
        ∙ get_or-set_same l2 (b + 2) v2 0 (simp length-set (omega arith))

    p3 : get_or l8 (b + 3) 0 ≡ v3
    p3 =
        get_or-set_other l7 (b + 7) (b + 3) v7 0 (λ x. omega arith)
        ∙ get_or-set_other l6 (b + 6) (b + 3) v6 0 (λ x. omega arith)
        ∙ get_or-set_other l5 (b + 5) (b + 3) v5 0 (λ x. omega arith)
        ∙ get_or-set_other l4 (b + 4) (b + 3) v4 0 (λ x. omega arith)
        ∙ get_or-set_same l3 (b + 3) v3 0 (simp length-set (omega arith))

    p4 : get_or l8 (b + 4) 0 ≡ v4
    p4 =
        get_or-set_other l7 (b + 7) (b + 4) v7 0 (λ x. omega arith)
        ∙ get_or-set_other l6 (b + 6) (b + 4) v6 0 (λ x. omega arith)
        ∙ get_or-set_other l5 (b + 5) (b + 4) v5 0 (λ x. omega arith)
        ∙ get_or-set_same l4 (b + 4) v4 0 (simp length-set (omega arith))

    p5 : get_or l8 (b + 5) 0 ≡ v5
    p5 =
        get_or-set_other l7 (b + 7) (b + 5) v7 0 (λ x. omega arith)
        ∙ get_or-set_other l6 (b + 6) (b + 5) v6 0 (λ x. omega arith)
        ∙ get_or-set_same l5 (b + 5) v5 0 (simp length-set (omega arith))

    p6 : get_or l8 (b + 6) 0 ≡ v6
    p6 =
        get_or-set_other l7 (b + 7) (b + 6) v7 0 (λ x. omega arith)
        ∙ get_or-set_same l6 (b + 6) v6 0 (simp length-set (omega arith))

    p7 : get_or l8 (b + 7) 0 ≡ v7
    p7 = get_or-set_same l7 (b + 7) v7 0 (simp length-set (omega arith))

-- ---- a stored record
module _ (l : List ℕ) (j : ℕ) (t : Blob) where
  pub length_stored : length (stored l j t) ≡ length l
  unfolding stored
  length_stored = long l (record_length * j) t.area t.sx t.sy t.x0 t.y0 t.x1 t.y1 t.outline

  pub stored_here : record_length * (j + 1) ≤ length l → patch_at (stored l j t) j ≡ t
  unfolding stored patch_at
  stored_here h =
      let b = record_length * j in
      let r : b + record_length ≤ length l = omega arith in
      let e0 = p0 l b t.area t.sx t.sy t.x0 t.y0 t.x1 t.y1 t.outline r in
      let e1 = p1 l b t.area t.sx t.sy t.x0 t.y0 t.x1 t.y1 t.outline r in
      let e2 = p2 l b t.area t.sx t.sy t.x0 t.y0 t.x1 t.y1 t.outline r in
      let e3 = p3 l b t.area t.sx t.sy t.x0 t.y0 t.x1 t.y1 t.outline r in
      let e4 = p4 l b t.area t.sx t.sy t.x0 t.y0 t.x1 t.y1 t.outline r in
      let e5 = p5 l b t.area t.sx t.sy t.x0 t.y0 t.x1 t.y1 t.outline r in
      let e6 = p6 l b t.area t.sx t.sy t.x0 t.y0 t.x1 t.y1 t.outline r in
      let e7 = p7 l b t.area t.sx t.sy t.x0 t.y0 t.x1 t.y1 t.outline r in
      λ i. record { area = e0 i; sx = e1 i; sy = e2 i; x0 = e3 i; y0 = e4 i; x1 = e5 i; y1 = e6 i; outline = e7 i }

  pub stored_before : (k : ℕ) → k < j → patch_at (stored l j t) k ≡ patch_at l k
  unfolding stored patch_at
  stored_before k h =
      let i = record_length * k in
      let o : (q : ℕ) → q < record_length * j → get_or (stored l j t) q 0 ≡ get_or l q 0 =
      out l (record_length * j) t.area t.sx t.sy t.x0 t.y0 t.x1 t.y1 t.outline in
      let e0 = o i (omega arith) in
      let e1 = o (i + 1) (omega arith) in
      let e2 = o (i + 2) (omega arith) in
      let e3 = o (i + 3) (omega arith) in
      let e4 = o (i + 4) (omega arith) in
      let e5 = o (i + 5) (omega arith) in
      let e6 = o (i + 6) (omega arith) in
      let e7 = o (i + 7) (omega arith) in
      λ z. record { area = e0 z; sx = e1 z; sy = e2 z; x0 = e3 z; y0 = e4 z; x1 = e5 z; y1 = e6 z; outline = e7 z }

  pub stored_rest : (n : ℕ) → j < n → drop (record_length * n) (stored l j t) ≡ drop (record_length * n) l
  unfolding stored
  stored_rest n h = rest l (record_length * j) t.area t.sx t.sy t.x0 t.y0 t.x1 t.y1 t.outline (record_length * n) (omega arith)

  -- one record more
  pub stored_table : record_length * (j + 1) ≤ length l → table (patch_at (stored l j t)) (j + 1) ≡ table (patch_at l) j ++ (t ∷ [])
  stored_table h =
      ap (table (patch_at (stored l j t))) (add-one j)
      ∙ table_more (patch_at (stored l j t)) j
      ∙ ap₂ (λ x y. x ++ (y ∷ [])) (table_cong (patch_at (stored l j t)) (patch_at l) j stored_before) (stored_here h)
