-- The waiting list as a stack, and the steps' cases as equations. Assumes nothing.
use Prim.Native.Nat.{ℕ, zero, suc, ◌+◌, ◌*◌, ◌/◌, ◌%◌, ◌≤◌, ◌<◌, max}
use native.Mathlib.Numerals.{add-one}
use native.Mathlib.Omega.{arith}
use mathlib.Core.Path.{◌≡◌, refl, sym, ap, ap₂, ◌∙◌, subst}
use mathlib.Core.List.{List, [], ◌∷◌}
use lib.Dec.{eqb}
use lib.ListN.{length, get_or, set}
use lib.Seq.{get_or-set_same, get_or-set_other}
use borrow.Author.Tests.{eq-eqb, ne_eqb}
use Rattle.base.specs.Loops.{turns, table}
use Rattle.base.proofs.Pick.{pick_yes, pick_no, cond_elim}
use Rattle.base.proofs.Turns.{turns_stay}
use Rattle.blobs.specs.declared.Blob.{Blob}
use Rattle.blobs.specs.Patches.{sides, patch_at, stored, record_length}
use Rattle.blobs.specs.Stack.{Marking, marking, stack_of, visit, spread, grow, no_blob, Flooding, flooding, begun, take, flood_step}
use Rattle.blobs.specs.Stack.{flood, Scanned, scanned, listed, scan}
use Rattle.blobs.specs.Ready.{at, Held, Stacked, Pixel, Ready}
use Rattle.blobs.proofs.Steps.{Waits, newest, room}
use Rattle.blobs.proofs.Floods.{progress_of, progress_area, held_pop, pixel_at_lem, flood_step_none}
use Rattle.blobs.proofs.Records.{stored_table}

-- ---- the stack
pub length_stack : (k : List ℕ) (t : ℕ) → length (stack_of k t) ≡ t
unfolding stack_of
length_stack k zero = refl
length_stack k (suc t) = ap suc (length_stack k t)

stack_same : (k k' : List ℕ) (t : ℕ) → ((j : ℕ) → j < t → at k j ≡ at k' j) → stack_of k t ≡ stack_of k' t
unfolding stack_of
stack_same k k' zero h = refl
stack_same k k' (suc t) h = ap₂ ◌∷◌ (h t (omega arith)) (stack_same k k' t (λ j l. h j (omega arith)))

pub stack_push : (k : List ℕ) (t q : ℕ) → t < length k → stack_of (set k t q) (t + 1) ≡ q ∷ stack_of k t
unfolding stack_of
stack_push k t q l =
    ap (stack_of (set k t q)) (add-one t)
    ∙ ap₂ ◌∷◌ (get_or-set_same k t q 0 l) (stack_same (set k t q) k t (λ j h. get_or-set_other k t j q 0 (λ e. omega arith)))

pub stack_pop : (k : List ℕ) (t l : ℕ) → t ≡ l + 1 → stack_of k t ≡ get_or k l 0 ∷ stack_of k l
unfolding stack_of
stack_pop k t l e = ap (stack_of k) (e ∙ add-one l)

pub stack_none : (k : List ℕ) (t : ℕ) → t ≡ 0 → stack_of k t ≡ []
unfolding stack_of
stack_none k t e = ap (stack_of k) e

-- ---- one pixel
module _ (m : List ℕ) (q : ℕ) (a : Marking) where
  pub visit_light : at m q ≡ 0 → a ≡ visit m q a
  unfolding visit
  visit_light e = pick_yes (eqb (at m q) 0) a _ (eq-eqb (at m q) 0 e)

  pub visit_seen : (at a.seen q ≡ 0 → ⊥) → a ≡ visit m q a
  unfolding visit
  visit_seen o = cond_elim (λ b. a ≡ b) (eqb (at m q) 0) a _ (λ e. refl) (λ e. pick_no (eqb (at a.seen q) 0) _ a (ne_eqb (at a.seen q) 0 o))

  pub visit_push : (at m q ≡ 0 → ⊥) → at a.seen q ≡ 0 → marking (set a.seen q 1) (q ∷ a.waiting) ≡ visit m q a
  unfolding visit
  visit_push d u = pick_yes (eqb (at a.seen q) 0) _ a (eq-eqb (at a.seen q) 0 u) ∙ pick_no (eqb (at m q) 0) a _ (ne_eqb (at m q) 0 d)

-- room for a pixel that is not marked
pub stack_room : {m s k : List ℕ} {t : ℕ} (q : ℕ) → Stacked m s k t → q < length m → at s q ≡ 0 → t < length k
stack_room {m} {s} {k} {t} q h l z = omega (arith, room q h.held l z, length_stack k t, h.long)

-- ---- a flood's start, a turn and its end
pub begun_is : (s k : List ℕ) (w a : ℕ) (b : Blob) → 0 < length k → b ≡ no_blob w a → flooding (set s a 1) (stack_of (set k 0 a) 1) b 1 ≡ begun w a s
unfolding begun stack_of
begun_is s k w a b l e = let g : get_or (set k 0 a) 0 0 ≡ a = get_or-set_same k 0 a 0 l in λ i. flooding (set s a 1) (g i ∷ []) (e i) 1

module _ (m : List ℕ) (w i : ℕ) (s k : List ℕ) (t : ℕ) (b : Blob) (d : ℕ) (s' k' : List ℕ) (t' : ℕ) (b' : Blob) (d' : ℕ) where
  pub flood_step_is : (l : ℕ) → t ≡ l + 1 → marking s' (stack_of k' t') ≡ spread m w (at k l) (marking s (stack_of k l)) → b'
      ≡ grow b (at k l % w) (at k l / w) (sides m w (at k l)) → d' ≡ max d t'
      → flooding s' (stack_of k' t') b' d' ≡ flood_step m w i (flooding s (stack_of k t) b d)
  unfolding flood_step take
  flood_step_is l te e be de =
      let de' : d' ≡ max d (length (spread m w (at k l) (marking s (stack_of k l))).waiting) =
      de ∙ ap (max d) (sym (length_stack k' t') ∙ ap (λ (a : Marking). length a.waiting) e) in
      (λ j. flooding (e j).seen (e j).waiting (be j) (de' j)) ∙ sym (ap (take m w (flooding s (stack_of k t) b d)) (stack_pop k t l te))

-- a flood that has counted as many pixels as it has taken turns
module _ {m : List ℕ} {w a : ℕ} {s₀ : List ℕ} (g : Ready m w s₀ a) (s k : List ℕ) (t : ℕ) (b : Blob) (d : ℕ)
    (e : flooding s (stack_of k t) b d ≡ turns b.area (flood_step m w) (begun w a s₀)) where
  pub flood_counts : b.area + t ≤ length m
  flood_counts = omega (arith, progress_area (progress_of g b.area e), length_stack k t)

  -- the newest pixel, and the stack without it
  pub flood_takes : (l : ℕ) → t ≡ l + 1 → Pixel m w (at k l)
  flood_takes l te =
      pixel_at_lem (at k l) g.pixel ((progress_of g b.area e).stacked (at k l) (subst (Waits (at k l)) (sym (stack_pop k t l te)) (newest refl)))

  pub flood_pops : (l : ℕ) → t ≡ l + 1 → length k ≡ length m → Stacked m s k l
  flood_pops l te long =
      record { held = held_pop (subst (λ x. Held m (marking s x)) (stack_pop k t l te) (progress_of g b.area e).held); long = long }

pub grow_area : (b b' : Blob) (x y s : ℕ) → b' ≡ grow b x y s → b'.area ≡ b.area + 1
unfolding grow
grow_area b b' x y s e = ap (λ (z : Blob). z.area) e

-- a flood that has ended after n turns stays as it is
pub flood_stays : (m : List ℕ) (w a : ℕ) (s₀ : List ℕ) (n t : ℕ) (f : Flooding) → f.waiting ≡ [] → n ≤ t → f ≡ turns n (flood_step m w) (begun w a s₀)
    → f ≡ turns t (flood_step m w) (begun w a s₀)
flood_stays m w a s₀ n t f fe l e =
    turns_stay (flood_step m w) (begun w a s₀) (λ x. f ≡ x) (λ k x p. sym (ap (flood_step m w k) (sym p) ∙ flood_step_none m w k f fe)) n t l e

pub flood_is : (m : List ℕ) (w a : ℕ) (s₀ : List ℕ) (n : ℕ) (f : Flooding) → f.waiting ≡ [] → n ≤ length m → f
    ≡ turns n (flood_step m w) (begun w a s₀) → f ≡ flood m w a s₀
unfolding flood
flood_is m w a s₀ n f fe l e = flood_stays m w a s₀ n (length m) f fe l e

-- ---- the scan's step
module _ (m : List ℕ) (w i : ℕ) (c : Scanned) where
  pub scan_light : at m i ≡ 0 → c ≡ scan m w i c
  unfolding scan
  scan_light e = pick_yes (eqb (at m i) 0) c _ (eq-eqb (at m i) 0 e)

  pub scan_seen : (at c.seen i ≡ 0 → ⊥) → c ≡ scan m w i c
  unfolding scan
  scan_seen o = cond_elim (λ b. c ≡ b) (eqb (at m i) 0) c _ (λ e. refl) (λ e. pick_no (eqb (at c.seen i) 0) _ c (ne_eqb (at c.seen i) 0 o))

  pub scan_list : (at m i ≡ 0 → ⊥) → at c.seen i ≡ 0 → listed c (flood m w i c.seen) ≡ scan m w i c
  unfolding scan
  scan_list d u = pick_yes (eqb (at c.seen i) 0) _ c (eq-eqb (at c.seen i) 0 u) ∙ pick_no (eqb (at m i) 0) c _ (ne_eqb (at m i) 0 d)

pub scan_stored : (m : List ℕ) (w i : ℕ) (s l : List ℕ) (n d : ℕ) (s' : List ℕ) (b : Blob) (e d' : ℕ) → (at m i ≡ 0 → ⊥) → at s i ≡ 0
    → record_length * (n + 1) ≤ length l
    → flooding s' [] b e ≡ flood m w i s → d' ≡ max d e
    → scanned s' (table (patch_at (stored l n b)) (n + 1)) d' ≡ scan m w i (scanned s (table (patch_at l) n) d)
scan_stored m w i s l n d s' b e d' dark u r fe de =
    let c = scanned s (table (patch_at l) n) d in
    (λ j. scanned s' (stored_table l n b r j) (de j)) ∙ ap (listed c) fe ∙ scan_list m w i c dark u

pub no_blob_area : (w a : ℕ) (b : Blob) → b ≡ no_blob w a → 0 ≡ b.area
unfolding no_blob
no_blob_area w a b e = sym (ap (λ (z : Blob). z.area) e)
