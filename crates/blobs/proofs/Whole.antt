-- From the end of the scan to what labelling promises. Assumes nothing.
use Prim.Native.Nat.{ℕ, ◌+◌, ◌*◌, ◌/◌, ◌≤◌, ◌<◌}
use native.Mathlib.Omega.{arith}
use mathlib.Core.Path.{◌≡◌, sym, ap, ◌∙◌, subst}
use mathlib.Core.List.{List, [], ◌++◌}
use mathlib.Core.Logic.{inl, inr, ⊎_elim}
use lib.ListN.{length, get_or, take, drop, replicate, drop_of_length-le, get_or-eq_default}
use lib.Seq.{length-take-le, length_front, drop_at}
use Rattle.base.specs.Loops.{turns, table}
use Rattle.base.proofs.Plane.{filled_is}
use Rattle.base.proofs.Table.{table_at, length_table}
use Rattle.base.proofs.Parts.{filled_lent}
use Rattle.blobs.specs.declared.Blob.{Blob}
use Rattle.blobs.specs.Patches.{Dark, total, one, PatchOf, ink, record_length, patch_at, Waited, PatchList}
use Rattle.blobs.specs.Stack.{Scanned, scanned, scan, unmarked, scan_all, waited_of}
use Rattle.blobs.specs.Moments.{MostHeld}
use Rattle.blobs.specs.Ready.{at, Sized}
use Rattle.blobs.specs.Areas.{patch_areas}
use Rattle.blobs.specs.Labels.{Labels}
use Rattle.blobs.proofs.Sums.{total_same_f}
use Rattle.blobs.proofs.Scans.{Scan, none, scan_few, scan_turns, seen_all, seen_ink, scan_half, areas_ink, outlines_ink}
use Rattle.blobs.proofs.Moments.{waited_most}

-- the areas as the scan left them
pub scan_at : {m : List ℕ} {w h : ℕ} → Sized m w h → (c : Scanned) (i : ℕ) → i ≤ length m → c ≡ turns i (scan m w) (unmarked m) → Scan m w c i
scan_at {m} {w} g c i l e = subst (λ x. Scan m w x i) (sym e) (scan_turns g i l)

pub scan_begun : (m : List ℕ) (w : ℕ) (s l : List ℕ) → s ≡ replicate (length m) 0 → scanned s (table (patch_at l) 0) 0 ≡ turns 0 (scan m w) (unmarked m)
unfolding turns table unmarked
scan_begun m w s l e = ap (λ x. scanned x [] 0) e

-- room for one record more
few_room : (c n z r : ℕ) → c ≡ n → 2 * (c + 1) ≤ z + 1 → record_length * ((z + 1) / 2) ≤ r → record_length * (n + 1) ≤ r
few_room c n z r e a b = omega arith

pub record_room : {m : List ℕ} {w h : ℕ} (s l : List ℕ) (n d i : ℕ) → Sized m w h → i < length m
    → scanned s (table (patch_at l) n) d ≡ turns i (scan m w) (unmarked m) → Dark m i → at s i ≡ 0
    → record_length * ((length m + 1) / 2) ≤ length l → record_length * (n + 1) ≤ length l
record_room {m} s l n d i g b e dark u r =
    let v = scan_at g (scanned s (table (patch_at l) n) d) i (omega arith) e in
    few_room (length (table (patch_at l) n)) n (length m) (length l) (length_table (patch_at l) n) (scan_few v b dark u) r

module _ {m : List ℕ} {w h : ℕ} (g : Sized m w h) (s k l s' k' l' : List ℕ) (n d : ℕ) (e : scanned s' (table (patch_at l') n) d ≡ turns (length m) (scan m w) (unmarked m)) where
  v : Scan m w (scanned s' (table (patch_at l') n) d) (length m)
  v = scan_at g (scanned s' (table (patch_at l') n) d) (length m) (omega arith) e

  many : length (table (patch_at l') n) ≡ n
  many = length_table (patch_at l') n

  is : (j : ℕ) → j < n → get_or (table (patch_at l') n) j none ≡ patch_at l' j
  is j b = table_at (patch_at l') n j none b

  -- a number of the records, added up: of those in the list, and of those that the scan has
  sums : (t : Blob → ℕ) → total (λ j. t (patch_at l' j)) one n ≡ total (λ j. t (get_or (table (patch_at l') n) j none)) one (length (table (patch_at l') n))
  sums t =
      total_same_f (λ j. t (patch_at l' j)) (λ j. t (get_or (table (patch_at l') n) j none)) n (λ j b. ap t (sym (is j b)))
      ∙ ap (total (λ j. t (get_or (table (patch_at l') n) j none)) one) (sym many)

  list : length l' ≡ length l → drop (record_length * n) l' ≡ drop (record_length * n) l → PatchList m w l l' n v.firsts
  list long rest =
      record {
        many = v.many ∙ many;
        long = long;
        first = λ j b. v.first j (omega (arith, many));
        ordered = λ i j b c. v.ordered i j b (omega (arith, many));
        records = λ j b. subst (PatchOf m w (at v.firsts j)) (is j b) (v.records j (omega (arith, many)));
        every = λ q x. let y = v.every q (seen_all v q x) in (y.0, omega (arith, y.1, many), y.2);
        areas = sums (λ t. t.area) ∙ areas_ink v;
        outlines = sums (λ t. t.outline) ∙ outlines_ink v;
        few = omega (arith, scan_half v, many);
        rest = rest;
      }

  waited_held' : Waited l' n d
  waited_held' =
      ⊎_elim (λ x. inl (sym many ∙ x.0, x.1))
      (λ x. let j = x.1.0 in let b : j < n = omega (arith, x.1.1, many) in inr (x.0, (j, b, omega (arith, x.1.2, ap (λ (t : Blob). t.area) (is j b)))))
      v.waited_held

  pub labels_are : length s ≡ w * h → length k ≡ w * h → length k' ≡ length k → length l' ≡ length l → drop (record_length * n) l' ≡ drop (record_length * n) l
      → Labels m w h (patch_areas s k l) (patch_areas s' k' l') n d
  unfolding scan_all
  labels_are sl kl kl' long rest =
      record {
        marks = filled_is (ink m) s (w * h) 0 s' (omega arith) s_long (λ q b. seen_ink v q) past;
        firsts = v.firsts;
        records = list long rest;
        most_held = subst (MostHeld m w) (sym waited_is') (waited_most g);
        waited_held = waited_held';
        blobs = ap (λ (c : Scanned). c.blobs) e;
        waited_is = waited_is';
        waiting_long = kl';
        waiting_rest = drop_of_length-le k' {i = w * h} (omega arith) ∙ sym (drop_of_length-le k {i = w * h} (omega arith));
      }
    where
      waited_is' : d ≡ waited_of m w
      waited_is' = ap (λ (c : Scanned). c.waited) e

      s_long : length s' ≡ length s
      s_long = v.long ∙ g.size ∙ sym sl

      past : (q : ℕ) → w * h ≤ q → get_or s' q 0 ≡ get_or s q 0
      past q b = get_or-eq_default s' 0 (omega (arith, s_long)) ∙ sym (get_or-eq_default s 0 (omega arith))

-- labelling on the first w·h entries, as labelling on the whole areas
pub labels_whole : (m : List ℕ) (w h : ℕ) (s k l s' k' l' : List ℕ) (n d : ℕ) → w * h ≤ length s → w * h ≤ length k
    → Labels m w h (patch_areas (take (w * h) s) (take (w * h) k) l) (patch_areas s' k' l') n d
    → Labels m w h (patch_areas s k l) (patch_areas (s' ++ drop (w * h) s) (k' ++ drop (w * h) k) l') n d
labels_whole m w h s k l s' k' l' n d sl kl a =
    record {
      marks = ap (λ b. b ++ drop (w * h) s) a.marks ∙ filled_lent (ink m) s (w * h) (w * h) (omega arith) sl;
      firsts = a.firsts;
      records = a.records;
      most_held = a.most_held;
      waited_held = a.waited_held;
      blobs = a.blobs;
      waited_is = a.waited_is;
      waiting_long = length_front k k' (w * h) a.waiting_long;
      waiting_rest = drop_at k' (drop (w * h) k) (w * h) (a.waiting_long ∙ length-take-le (w * h) k kl);
    }
