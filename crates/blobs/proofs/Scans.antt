-- The scan over the pixels: what holds before the pixel i, and what that says at the end. Assumes nothing.
use Prim.Native.Nat.{ℕ, zero, suc, ◌+◌, ◌*◌, ◌≤◌, ◌<◌, max}
use native.Mathlib.Nat.{mul-mod_left, mul-le-mul, mul_comm}
use native.Mathlib.Decide.{dec_lt, ℕ_discrete}
use native.Mathlib.Omega.{arith}
use mathlib.Core.Path.{◌≡◌, refl, sym, ap, ◌∙◌, subst}
use mathlib.Core.List.{List, [], ◌∷◌, ◌++◌}
use mathlib.Core.Logic.{◌⊎◌, inl, inr, ⊎_elim}
use lib.Dec.{eqb}
use lib.ListN.{length, get_or, set, replicate, length-set, length-append, length-replicate, get_or-append, get_or-eq_default, get_or-replicate}
use lib.Seq.{get_or_at}
use borrow.Author.Tests.{eqb-true, eqb-false}
use Rattle.base.specs.Loops.{turns}
use Rattle.base.proofs.Pick.{cond_elim}
use Rattle.blobs.specs.declared.Blob.{Blob}
use Rattle.blobs.specs.Patches.{Dark, Joined, total, one, sides, PatchOf, First, ink}
use Rattle.blobs.specs.Patches.Joined.{here, step}
use Rattle.blobs.specs.Stack.{Flooding, flood, Scanned, listed, scan, unmarked}
use Rattle.blobs.specs.Ready.{at, Closed, Ready, Sized}
use Rattle.blobs.proofs.Sums.{total_same, total_same_f, total_next, total_zero, total_set, at_set, flags_set}
use Rattle.blobs.proofs.Grid.{dark_inside}
use Rattle.blobs.proofs.Joins.{joined_dark, closed_back}
use Rattle.blobs.proofs.Floods.{Flooded, flood_does}
use Rattle.blobs.proofs.Pairs.{firsts_few}

abbrev pub none : Blob
none = record { area = 0; sx = 0; sy = 0; x0 = 0; y0 = 0; x1 = 0; y1 = 0; outline = 0 }

abbrev pub blob_at : Scanned → ℕ → Blob
blob_at c j = get_or c.blobs j none

abbrev pub count : Scanned → ℕ
count c = length c.blobs

-- before the pixel i: the records are the patches of the pixels before i, by their first pixels
pub record Scan (m : List ℕ) (w : ℕ) (c : Scanned) (i : ℕ) : Type 0 where
  pub wide : 0 < w
  pub narrow : w ≤ 4096
  pub high : ℕ
  pub size : length m ≡ high * w
  pub small : length m ≤ 16777216
  pub long : length c.seen ≡ length m
  pub flags : (q : ℕ) → at c.seen q ≤ 1
  pub closed : Closed m w c.seen
  pub passed : (q : ℕ) → q < i → Dark m q → at c.seen q ≡ 1
  pub firsts : List ℕ
  pub many : length firsts ≡ count c
  pub first : (j : ℕ) → j < count c → First m w (at firsts j)
  pub ordered : (i j : ℕ) → i < j → j < count c → at firsts i < at firsts j
  pub records : (j : ℕ) → j < count c → PatchOf m w (at firsts j) (blob_at c j)
  pub before : (j : ℕ) → j < count c → at firsts j < i
  pub every : (q : ℕ) → at c.seen q ≡ 1 → (j : ℕ) × (j < count c) × Joined m w (at firsts j) q
  pub areas : total (λ j. (blob_at c j).area) one (count c) ≡ total one (at c.seen) (length m)
  pub outlines : total (λ j. (blob_at c j).outline) one (count c) ≡ total (sides m w) (at c.seen) (length m)
  pub waited_held : ((count c ≡ 0) × (c.waited ≡ 0)) ⊎ ((1 ≤ c.waited) × ((j : ℕ) × (j < count c) × (c.waited ≤ (blob_at c j).area)))
  -- the first pixels once more, as flags
  pub flag : List ℕ
  pub flag_long : length flag ≡ length m
  pub flag_most : (q : ℕ) → at flag q ≤ 1
  pub flag_before : (q : ℕ) → at flag q ≡ 1 → q < i
  pub flag_first : (q : ℕ) → at flag q ≡ 1 → First m w q
  pub flag_many : total one (at flag) (length m) ≡ count c

-- ---- a pixel that starts no patch
scan_pass : {m : List ℕ} {w : ℕ} {c : Scanned} {i : ℕ} → (Dark m i → at c.seen i ≡ 1) → Scan m w c i → Scan m w c (suc i)
scan_pass {m} {w} {c} {i} h v =
    record {
      wide = v.wide;
      narrow = v.narrow;
      high = v.high;
      size = v.size;
      small = v.small;
      long = v.long;
      flags = v.flags;
      closed = v.closed;
      passed = λ q b d. go q b d (ℕ_discrete q i);
      firsts = v.firsts;
      many = v.many;
      first = v.first;
      ordered = v.ordered;
      records = v.records;
      before = λ j b. omega (arith, v.before j b);
      every = v.every;
      areas = v.areas;
      outlines = v.outlines;
      waited_held = v.waited_held;
      flag = v.flag;
      flag_long = v.flag_long;
      flag_most = v.flag_most;
      flag_before = λ q e. omega (arith, v.flag_before q e);
      flag_first = v.flag_first;
      flag_many = v.flag_many;
    }
  where
    go : (q : ℕ) → q < suc i → Dark m q → Dec (q ≡ i) → at c.seen q ≡ 1
    go q b d (yes e) = subst (λ (z : ℕ). at c.seen z ≡ 1) (sym e) (h (subst (Dark m) e d))
    go q b d (no o) = v.passed q (omega arith) d

-- ---- a pixel that starts one
module _ {m : List ℕ} {w : ℕ} {c : Scanned} {i : ℕ} (v : Scan m w c i) (inside : i < length m) (dark : Dark m i) (unseen : at c.seen i ≡ 0) where
  pub scan_ready : Ready m w c.seen i
  scan_ready =
      record {
        pixel = record { inside = inside; wide = v.wide; narrow = v.narrow; whole = rw v.size (mul-mod_left v.high w); small = v.small };
        long = v.long;
        flags = v.flags;
        dark = dark;
        unseen = unseen;
        closed = v.closed;
      }

  is_first : First m w i
  is_first = (dark, λ q j. go q j (dec_lt q i))
    where
      go : (q : ℕ) → Joined m w i q → Dec (q < i) → i ≤ q
      go q j (yes y) = absurd (omega (arith, closed_back c.seen v.closed j (v.passed q y (joined_dark j)), unseen))
      go q j (no o) = omega arith

  flag_i : at v.flag i ≡ 0
  flag_i = go (ℕ_discrete (at v.flag i) 1)
    where
      go : Dec (at v.flag i ≡ 1) → at v.flag i ≡ 0
      go (yes e) = absurd (omega (arith, v.flag_before i e))
      go (no o) = omega (arith, v.flag_most i)

  abbrev flag' : List ℕ
  flag' = set v.flag i 1

  in_flag : i < length v.flag
  in_flag = omega (arith, v.flag_long)

  flag_many' : total one (at flag') (length m) ≡ count c + 1
  flag_many' = omega (arith, total_set one v.flag i (length m) inside in_flag flag_i, v.flag_many)

  flag_first' : (q : ℕ) → at flag' q ≡ 1 → First m w q
  flag_first' q e = ⊎_elim (λ x. subst (First m w) (sym x.0) is_first) (λ x. v.flag_first q (sym x.1 ∙ e)) (at_set v.flag i 1 q in_flag)

  -- there is room for one more
  pub scan_few : 2 * (count c + 1) ≤ length m + 1
  scan_few = omega (arith, flag_many', firsts_few m w v.high (at flag') v.wide v.size (flags_set v.flag i in_flag v.flag_most) flag_first')

  module _ (f : Flooding) (g : Flooded m w i c.seen f) where
    abbrev c' : Scanned
    c' = listed c f

    n : ℕ
    n = count c

    more : count c' ≡ count c + 1
    more = length-append c.blobs (f.blob ∷ [])

    abbrev firsts' : List ℕ
    firsts' = v.firsts ++ i ∷ []

    first_old : (j : ℕ) → j < count c → at firsts' j ≡ at v.firsts j
    first_old j b = get_or-append v.firsts (i ∷ []) 0 j (omega (arith, v.many))

    first_new : at firsts' (count c) ≡ i
    first_new = get_or_at v.firsts i [] 0 (count c) v.many

    blob_old : (j : ℕ) → j < count c → blob_at c' j ≡ blob_at c j
    blob_old j b = get_or-append c.blobs (f.blob ∷ []) none j b

    blob_new : blob_at c' (count c) ≡ f.blob
    blob_new = get_or_at c.blobs f.blob [] none (count c) refl

    -- what holds of each old record and of the new one holds of all
    both : (P : ℕ → Type 0) → ((j : ℕ) → j < count c → P j) → P (count c) → (j : ℕ) → j < count c' → P j
    both P a b j e = go (dec_lt j (count c))
      where
        go : Dec (j < count c) → P j
        go (yes y) = a j y
        go (no o) = let je : count c ≡ j = omega (arith, more) in subst P je b

    old_record : (j : ℕ) → j < count c → PatchOf m w (at firsts' j) (blob_at c' j)
    old_record j b = rw (first_old j b, blob_old j b) (v.records j b)

    new_record : PatchOf m w (at firsts' (count c)) (blob_at c' (count c))
    new_record = rw (first_new, blob_new) g.patch

    before' : (j : ℕ) → j < count c' → at firsts' j < suc i
    before' = both (λ j. at firsts' j < suc i) (λ j b. omega (arith, first_old j b, v.before j b)) (omega (arith, first_new))

    ordered' : (j₁ j₂ : ℕ) → j₁ < j₂ → j₂ < count c' → at firsts' j₁ < at firsts' j₂
    ordered' j₁ j₂ b d =
        both (λ j. j₁ < j → at firsts' j₁ < at firsts' j)
        (λ j e x. omega (arith, first_old j e, first_old j₁ (omega arith), v.ordered j₁ j x e))
        (λ x. omega (arith, first_new, first_old j₁ x, v.before j₁ x))
        j₂ d b

    closed' : Closed m w f.seen
    closed' q r e t d = ⊎_elim (λ x. g.keeps r (v.closed q r x t d)) (λ x. g.all r (step x t d)) (g.only q e)

    passed' : (q : ℕ) → q < suc i → Dark m q → at f.seen q ≡ 1
    passed' q b d = go (ℕ_discrete q i)
      where
        go : Dec (q ≡ i) → at f.seen q ≡ 1
        go (yes e) = subst (λ (z : ℕ). at f.seen z ≡ 1) (sym e) (g.all i (here dark))
        go (no o) = g.keeps q (v.passed q (omega arith) d)

    every' : (q : ℕ) → at f.seen q ≡ 1 → (j : ℕ) × (j < count c') × Joined m w (at firsts' j) q
    every' q e =
        ⊎_elim (λ x. let y = v.every q x in (y.0, omega (arith, y.1, more), subst (λ (z : ℕ). Joined m w z q) (sym (first_old y.0 y.1)) y.2))
        (λ x. (count c, omega (arith, more), subst (λ (z : ℕ). Joined m w z q) (sym first_new) x)) (g.only q e)

    -- a number that each record has of its pixels, added up over the records
    sums : (t : Blob → ℕ) (k : ℕ → ℕ) → total k (at f.seen) (length m) ≡ total k (at c.seen) (length m) + t f.blob
        → total (λ j. t (blob_at c j)) one (count c) ≡ total k (at c.seen) (length m)
        → total (λ j. t (blob_at c' j)) one (count c') ≡ total k (at f.seen) (length m)
    sums t k grown old =
        ap (total (λ j. t (blob_at c' j)) one) more
        ∙ omega (
          arith,
          grown,
          old,
          total_next (λ j. t (blob_at c' j)) (count c),
          total_same_f (λ j. t (blob_at c' j)) (λ j. t (blob_at c j)) (count c) (λ j b. ap t (blob_old j b)),
          ap t blob_new,
        )

    waited_held' : ((count c' ≡ 0) × (c'.waited ≡ 0)) ⊎ ((1 ≤ c'.waited) × ((j : ℕ) × (j < count c') × (c'.waited ≤ (blob_at c' j).area)))
    waited_held' =
        ⊎_elim (λ x. inr (omega (arith, g.some), (count c, omega (arith, more), omega (arith, x.1, g.waited_held, new_area))))
        (λ x. inr (omega (arith, x.0), more_waited x.1 (dec_lt c.waited f.waited))) v.waited_held
      where
        new_area : (blob_at c' (count c)).area ≡ f.blob.area
        new_area = ap (λ (x : Blob). x.area) blob_new

        more_waited : ((j : ℕ) × (j < count c) × (c.waited ≤ (blob_at c j).area)) → Dec (c.waited < f.waited)
            → (j : ℕ) × (j < count c') × (max c.waited f.waited ≤ (blob_at c' j).area)
        more_waited x (yes y) = (count c, omega (arith, more), omega (arith, g.waited_held, new_area))
        more_waited x (no o) = (x.0, omega (arith, x.1, more), omega (arith, x.2, ap (λ (x : Blob). x.area) (blob_old x.0 x.1)))

    scan_more : Scan m w c' (suc i)
    scan_more =
        record {
          wide = v.wide;
          narrow = v.narrow;
          high = v.high;
          size = v.size;
          small = v.small;
          long = g.long;
          flags = g.flags;
          closed = closed';
          passed = passed';
          firsts = firsts';
          many = omega (arith, length-append v.firsts (i ∷ []), v.many, more);
          first = both (λ j. First m w (at firsts' j)) (λ j b. subst (First m w) (sym (first_old j b)) (v.first j b)) (subst (First m w) (sym first_new) is_first);
          ordered = ordered';
          records = both (λ j. PatchOf m w (at firsts' j) (blob_at c' j)) old_record new_record;
          before = before';
          every = every';
          areas = sums (λ t. t.area) one g.count v.areas;
          outlines = sums (λ t. t.outline) (sides m w) g.outline v.outlines;
          waited_held = waited_held';
          flag = flag';
          flag_long = length-set v.flag i 1 ∙ v.flag_long;
          flag_most = flags_set v.flag i in_flag v.flag_most;
          flag_before = λ q e. ⊎_elim (λ x. omega (arith, x.0)) (λ x. omega (arith, v.flag_before q (sym x.1 ∙ e))) (at_set v.flag i 1 q in_flag);
          flag_first = flag_first';
          flag_many = flag_many' ∙ sym more;
        }

-- ---- the scan's step
scan_step : {m : List ℕ} {w : ℕ} {c : Scanned} {i : ℕ} → i < length m → Scan m w c i → Scan m w (scan m w i c) (suc i)
unfolding scan
scan_step {m} {w} {c} {i} l v =
    cond_elim (λ s. Scan m w s (suc i)) (eqb (get_or m i 0) 0) c _ (λ e. scan_pass (λ d. absurd (d (eqb-true _ 0 e))) v)
    (λ e. cond_elim (λ s. Scan m w s (suc i)) (eqb (get_or c.seen i 0) 0) _ c
    (λ z. let d = eqb-false (get_or m i 0) 0 e in let u = eqb-true (get_or c.seen i 0) 0 z in scan_more v l d u (flood m w i c.seen) (flood_does (scan_ready v l d u)))
    (λ z. let o = eqb-false (get_or c.seen i 0) 0 z in scan_pass (λ d. omega (arith, v.flags i)) v))

-- ---- the start
zeros : (n q : ℕ) → at (replicate n 0) q ≡ 0
zeros n q = go (dec_lt q n)
  where
    go : Dec (q < n) → at (replicate n 0) q ≡ 0
    go (yes y) = get_or-replicate n q 0 0 y
    go (no o) = get_or-eq_default (replicate n 0) 0 (omega (arith, length-replicate n zero))

scan_start : {m : List ℕ} {w h : ℕ} → Sized m w h → Scan m w (unmarked m) 0
unfolding total unmarked
scan_start {m} {w} {h} g =
    let n : ℕ = length m in
    let z = zeros n in
    let t : (k : ℕ → ℕ) → total k (at (replicate n 0)) n ≡ 0 = λ k. total_zero k (at (replicate n 0)) n z in
    record {
      wide = g.wide;
      narrow = g.narrow;
      high = h;
      size = g.size ∙ mul_comm w h;
      small = omega (arith, g.size, mul-le-mul g.narrow g.low);
      long = length-replicate n zero;
      flags = λ q. omega (arith, z q);
      closed = λ q r e a d. absurd (omega (arith, e, z q));
      passed = λ q b d. absurd (omega arith);
      firsts = [];
      many = refl;
      first = λ j b. absurd (omega arith);
      ordered = λ i j a b. absurd (omega arith);
      records = λ j b. absurd (omega arith);
      before = λ j b. absurd (omega arith);
      every = λ q e. absurd (omega (arith, e, z q));
      areas = sym (t one);
      outlines = sym (t (sides m w));
      waited_held = inl (refl, refl);
      flag = replicate n 0;
      flag_long = length-replicate n zero;
      flag_most = λ q. omega (arith, z q);
      flag_before = λ q e. absurd (omega (arith, e, z q));
      flag_first = λ q e. absurd (omega (arith, e, z q));
      flag_many = t one;
    }

pub scan_turns : {m : List ℕ} {w h : ℕ} → Sized m w h → (i : ℕ) → i ≤ length m → Scan m w (turns i (scan m w) (unmarked m)) i
unfolding turns
scan_turns g zero l = scan_start g
scan_turns g (suc i) l = scan_step (omega arith) (scan_turns g i (omega arith))

-- ---- the end
module _ {m : List ℕ} {w : ℕ} {c : Scanned} (v : Scan m w c (length m)) where
  pub seen_all : (q : ℕ) → Dark m q → at c.seen q ≡ 1
  seen_all q d = v.passed q (dark_inside m q d) d

  pub seen_ink : (q : ℕ) → at c.seen q ≡ ink m q
  seen_ink q = go (ℕ_discrete (at m q) 0) (ℕ_discrete (at c.seen q) 1)
    where
      go : Dec (at m q ≡ 0) → Dec (at c.seen q ≡ 1) → at c.seen q ≡ ink m q
      go (yes e) (yes x) = absurd (joined_dark (v.every q x).2 e)
      go (yes e) (no o) = omega (arith, v.flags q)
      go (no d) x = omega (arith, seen_all q d)

  pub scan_half : 2 * count c ≤ length m + 1
  scan_half = omega (arith, v.flag_many, firsts_few m w v.high (at v.flag) v.wide v.size v.flag_most v.flag_first)

  seen_total : (k : ℕ → ℕ) → total k (at c.seen) (length m) ≡ total k (ink m) (length m)
  seen_total k = total_same k (at c.seen) (ink m) (length m) (λ q b. seen_ink q)

  pub areas_ink : total (λ j. (blob_at c j).area) one (count c) ≡ total one (ink m) (length m)
  areas_ink = v.areas ∙ seen_total one

  pub outlines_ink : total (λ j. (blob_at c j).outline) one (count c) ≡ total (sides m w) (ink m) (length m)
  outlines_ink = v.outlines ∙ seen_total (sides m w)
