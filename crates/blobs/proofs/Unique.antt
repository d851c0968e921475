-- What the statements decide: a patch has one record, and a mask one number of patches and one patch list. Assumes nothing.
use mathlib.Core.Path.{◌≡◌, sym, ap, subst, ◌∙◌}
use mathlib.Core.List.{List}
use Prim.Native.Nat.{ℕ, ◌≤◌, ◌<◌}
use native.Mathlib.Nat.{le_antisymm}
use native.Mathlib.Omega.{arith}
use lib.ListN.{length, get_or}
use lib.Seq.{ext_get_or}
use Rattle.base.specs.Loops.{table}
use Rattle.base.proofs.Enumerations.{Within, within_same, within_number}
use Rattle.base.proofs.Table.{table_cong}
use Rattle.blobs.specs.declared.Blob.{Blob}
use Rattle.blobs.specs.Patches.{Joined, total, Least, Greatest, one, column, row, sides, PatchOf, First, PatchCount, patch_at, PatchList}
use Rattle.blobs.proofs.Sums.{total_same}
use Rattle.blobs.proofs.Marks.{marks_same}
use Rattle.blobs.proofs.Joins.{joined_sym}

least_same : (f : ℕ → ℕ) (P : ℕ → Type 0) (a b : ℕ) → Least f P a → Least f P b → a ≡ b
least_same f P a b l m = le_antisymm (subst (λ z. a ≤ z) m.1.2 (l.0 m.1.0 m.1.1)) (subst (λ z. b ≤ z) l.1.2 (m.0 l.1.0 l.1.1))

greatest_same : (f : ℕ → ℕ) (P : ℕ → Type 0) (a b : ℕ) → Greatest f P a → Greatest f P b → a ≡ b
greatest_same f P a b l m = le_antisymm (subst (λ z. z ≤ b) l.1.2 (m.0 l.1.0 l.1.1)) (subst (λ z. z ≤ a) m.1.2 (l.0 m.1.0 m.1.1))

-- a patch has one record
pub patch_unique : (m : List ℕ) (w a : ℕ) (t u : Blob) → PatchOf m w a t → PatchOf m w a u → t ≡ u
patch_unique m w a t u p q =
    let J = Joined m w a in
    let e : (k : ℕ) → p.marks k ≡ q.marks k = marks_same p.marks q.marks J p.marked q.marked in
    let s : (f : ℕ → ℕ) → total f p.marks (length m) ≡ total f q.marks (length m) = λ f. total_same f p.marks q.marks (length m) (λ k l. e k) in
    let k0 : t.area ≡ u.area = p.area_is ∙ s one ∙ sym q.area_is in
    let k1 : t.sx ≡ u.sx = p.sx_is ∙ s (column w) ∙ sym q.sx_is in
    let k2 : t.sy ≡ u.sy = p.sy_is ∙ s (row w) ∙ sym q.sy_is in
    let k3 : t.x0 ≡ u.x0 = least_same (column w) J t.x0 u.x0 p.x0_is q.x0_is in
    let k4 : t.y0 ≡ u.y0 = least_same (row w) J t.y0 u.y0 p.y0_is q.y0_is in
    let k5 : t.x1 ≡ u.x1 = greatest_same (column w) J t.x1 u.x1 p.x1_is q.x1_is in
    let k6 : t.y1 ≡ u.y1 = greatest_same (row w) J t.y1 u.y1 p.y1_is q.y1_is in
    let k7 : t.outline ≡ u.outline = p.outline_is ∙ s (sides m w) ∙ sym q.outline_is in
    λ i. record { area = k0 i; sx = k1 i; sy = k2 i; x0 = k3 i; y0 = k4 i; x1 = k5 i; y1 = k6 i; outline = k7 i }

-- ---- the patch list is decided by the mask

module _ (m : List ℕ) (w : ℕ) where
  -- every first pixel is counted
  counted : {n : ℕ} (a : PatchCount m w n) (p : ℕ) → First m w p → (j : ℕ) × (j < n) × (get_or a.firsts j 0 ≡ p)
  counted a p f =
      let e = a.every p f.0 in
      (e.0, e.1, le_antisymm ((a.first e.0 e.1).1 p e.2) (f.1 (get_or a.firsts e.0 0) (joined_sym e.2)))

  counts_within : {n o : ℕ} (a : PatchCount m w n) (b : PatchCount m w o) → Within (λ j. get_or a.firsts j 0) (λ j. get_or b.firsts j 0) n o
  counts_within a b = record { rises = a.ordered; found = λ i h. counted b (get_or a.firsts i 0) (a.first i h) }

  -- a mask has one number of patches
  pub count_unique : {n o : ℕ} → PatchCount m w n → PatchCount m w o → n ≡ o
  count_unique a b = within_number (counts_within a b) (counts_within b a)

  -- a patch list has as many records as there are patches
  abbrev pub list_count : {l l' : List ℕ} {n : ℕ} {firsts : List ℕ} → PatchList m w l l' n firsts → PatchCount m w n
  list_count {firsts = firsts} h = record { firsts = firsts; many = h.many; first = h.first; ordered = h.ordered; every = h.every }

  -- every first pixel stands in the list
  pub listed : {l l' : List ℕ} {n : ℕ} {firsts : List ℕ} → PatchList m w l l' n firsts → (p : ℕ) → First m w p → (j : ℕ) × (j < n) × (get_or firsts j 0 ≡ p)
  listed h p f = counted (list_count h) p f

  module _ {k k' l l' : List ℕ} {n o : ℕ} {F G : List ℕ} (a : PatchList m w k k' n F) (b : PatchList m w l l' o G) where
    -- as many patches, with the same first pixels and the same records
    pub list_number : n ≡ o
    list_number = count_unique (list_count a) (list_count b)

    pub list_firsts : (j : ℕ) → j < n → (j < o) × (get_or F j 0 ≡ get_or G j 0)
    list_firsts j h = within_same (counts_within (list_count a) (list_count b)) (counts_within (list_count b) (list_count a)) j h

    pub list_records : (j : ℕ) → j < n → patch_at k' j ≡ patch_at l' j
    list_records j h =
        let e = list_firsts j h in
        patch_unique m w (get_or F j 0) (patch_at k' j) (patch_at l' j) (a.records j h) (subst (λ z. PatchOf m w z (patch_at l' j)) (sym e.1) (b.records j e.0))

  -- two lists that satisfy the statement are equal: as many records, the same first pixels, the same records
  pub lists_equal : {k k' l l' : List ℕ} {n o : ℕ} {F G : List ℕ} → PatchList m w k k' n F → PatchList m w l l' o G → (n ≡ o) × (F ≡ G)
      × (table (patch_at k') n ≡ table (patch_at l') o)
  lists_equal {k} {k'} {l} {l'} {n} {o} {F} {G} a b =
      let e = list_number a b in (
        e,
        ext_get_or 0 F G (a.many ∙ e ∙ sym b.many) (λ i h. (list_firsts a b i (omega (arith, a.many))).1),
        table_cong (patch_at k') (patch_at l') n (list_records a b) ∙ ap (table (patch_at l')) e,
      )
