-- A flood from the pixel a: what holds as it goes on, and that at its end the record is that of a's whole patch. Assumes nothing.
use Prim.Native.Nat.{ℕ, zero, suc, ◌+◌, ◌*◌, ◌-◌, ◌/◌, ◌%◌, ◌≤◌, ◌<◌, min, max}
use native.Mathlib.Nat.{mod-lt, div-le_self, mul-le-mul_right, mul-one}
use native.Mathlib.Decide.{dec_lt, ℕ_discrete}
use native.Mathlib.Numerals.{add-one}
use native.Mathlib.Omega.{arith}
use mathlib.Core.Path.{◌≡◌, refl, sym, ap, ◌∙◌, subst}
use mathlib.Core.List.{List, [], ◌∷◌}
use mathlib.Core.Logic.{◌⊎◌, inl, inr, ⊎_elim}
use lib.ListN.{length, set, length-set}
use lib.Seq.{get_or-set_same}
use Rattle.base.specs.Loops.{turns}
use Rattle.base.proofs.Turns.{turns_keep}
use Rattle.blobs.specs.declared.Blob.{Blob}
use Rattle.blobs.specs.Patches.{Dark, Touch, Joined, total, one, column, row, sides, Marks, PatchOf}
use Rattle.blobs.specs.Patches.Joined.{here, step}
use Rattle.blobs.specs.Stack.{Marking, marking, spread, grow, Flooding, flooding, no_blob, begun, take, flood_step, flood}
use Rattle.blobs.specs.Ready.{at, Held, Pixel, Closed, Ready}
use Rattle.blobs.proofs.Sums.{total_set, total_most, total_less, at_set, flags_set, summed, summed_one}
use Rattle.blobs.proofs.Grid.{dark_inside}
use Rattle.blobs.proofs.Sides.{sides_most}
use Rattle.blobs.proofs.Joins.{joined_dark, closed_all, closed_back}
use Rattle.blobs.proofs.Steps.{Waits, newest, older, Reach}
use Rattle.blobs.proofs.Spread.{reach_spread, spread_marks}

-- each dark pixel around q is marked
abbrev pub Around : List ℕ → ℕ → List ℕ → ℕ → Type 0
Around m w s q = (r : ℕ) → Touch w q r → Dark m r → at s r ≡ 1

-- q is in the box
pub record Boxed (w : ℕ) (b : Blob) (q : ℕ) : Type 0 where
  pub x0 : b.x0 ≤ q % w
  pub x1 : q % w ≤ b.x1
  pub y0 : b.y0 ≤ q / w
  pub y1 : q / w ≤ b.y1

-- some pixel of the patch has the value v
abbrev pub Hit : List ℕ → ℕ → ℕ → (ℕ → ℕ) → ℕ → Type 0
Hit m w a f v = (q : ℕ) × Joined m w a q × (f q ≡ v)

-- s₀ are the marks before the flood
pub record Progress (m : List ℕ) (w a : ℕ) (s₀ : List ℕ) (f : Flooding) : Type 0 where
  pub held : Held m (marking f.seen f.waiting)
  pub keeps : (q : ℕ) → at s₀ q ≡ 1 → at f.seen q ≡ 1
  pub start : at f.seen a ≡ 1
  pub stacked : (q : ℕ) → Waits q f.waiting → Joined m w a q
  pub done : (q : ℕ) → at f.seen q ≡ 1 → (at s₀ q ≡ 1) ⊎ (Joined m w a q × (Waits q f.waiting ⊎ (Around m w f.seen q × Boxed w f.blob q)))
  pub area : total one (at f.seen) (length m) ≡ total one (at s₀) (length m) + (f.blob.area + length f.waiting)
  pub sx : total (column w) (at f.seen) (length m) ≡ total (column w) (at s₀) (length m) + (f.blob.sx + summed (column w) f.waiting)
  pub sy : total (row w) (at f.seen) (length m) ≡ total (row w) (at s₀) (length m) + (f.blob.sy + summed (row w) f.waiting)
  pub outline : total (sides m w) (at f.seen) (length m) ≡ total (sides m w) (at s₀) (length m) + (f.blob.outline + summed (sides m w) f.waiting)
  pub x0 : Hit m w a (column w) f.blob.x0
  pub x1 : Hit m w a (column w) f.blob.x1
  pub y0 : Hit m w a (row w) f.blob.y0
  pub y1 : Hit m w a (row w) f.blob.y1
  pub some : 1 ≤ f.waited
  pub waited_held : total one (at s₀) (length m) + f.waited ≤ total one (at f.seen) (length m)

-- ---- the start
progress_start : {m : List ℕ} {w a : ℕ} {s : List ℕ} → Ready m w s a → Progress m w a s (begun w a s)
unfolding begun no_blob summed
progress_start {m} {w} {a} {s} g =
    let me : Joined m w a a = here g.dark in
    let n : ℕ = length m in
    record {
      held = record { long = length-set s a 1 ∙ g.long; flags = flags_set s a i g.flags; fewer = omega (arith, more one) };
      keeps = λ q e. ⊎_elim (λ x. x.1) (λ x. x.1 ∙ e) (at_set s a 1 q i);
      start = get_or-set_same s a 1 0 i;
      stacked = alone;
      done = λ q e. ⊎_elim (λ x. inr (subst (Joined m w a) (sym x.0) me, inl (newest x.0))) (λ x. inl (sym x.1 ∙ e)) (at_set s a 1 q i);
      area = omega (arith, more one);
      sx = omega (arith, more (column w));
      sy = omega (arith, more (row w));
      outline = omega (arith, more (sides m w));
      x0 = (a, me, refl);
      x1 = (a, me, refl);
      y0 = (a, me, refl);
      y1 = (a, me, refl);
      some = omega arith;
      waited_held = omega (arith, more one);
    }
  where
    i : a < length s
    i = omega (arith, g.long, g.pixel.inside)

    more : (f : ℕ → ℕ) → total f (at (set s a 1)) (length m) ≡ total f (at s) (length m) + f a
    more f = total_set f s a (length m) g.pixel.inside i g.unseen

    alone : (q : ℕ) → Waits q (a ∷ []) → Joined m w a q
    alone q (newest e) = subst (Joined m w a) (sym e) (here g.dark)
    alone q (older x3) = elim x3 [ ]

-- ---- a turn: the newest pixel p is taken, counted, and its neighbours are visited
boxed_more : {w : ℕ} (b : Blob) (p s q : ℕ) → Boxed w b q → Boxed w (grow b (p % w) (p / w) s) q
unfolding grow
boxed_more b p s q h = record { x0 = omega (arith, h.x0); x1 = omega (arith, h.x1); y0 = omega (arith, h.y0); y1 = omega (arith, h.y1) }

boxed_new : (w : ℕ) (b : Blob) (p s : ℕ) → Boxed w (grow b (p % w) (p / w) s) p
unfolding grow
boxed_new w b p s = record { x0 = omega arith; x1 = omega arith; y0 = omega arith; y1 = omega arith }

hit_min : {m : List ℕ} {w a p : ℕ} (f : ℕ → ℕ) (v : ℕ) → Joined m w a p → Hit m w a f v → Hit m w a f (min v (f p))
hit_min {m} {w} {a} {p} f v j h = go (dec_lt v (f p))
  where
    go : Dec (v < f p) → Hit m w a f (min v (f p))
    go (yes y) = (h.0, h.1, omega (arith, h.2))
    go (no n) = (p, j, omega arith)

hit_max : {m : List ℕ} {w a p : ℕ} (f : ℕ → ℕ) (v : ℕ) → Joined m w a p → Hit m w a f v → Hit m w a f (max v (f p))
hit_max {m} {w} {a} {p} f v j h = go (dec_lt v (f p))
  where
    go : Dec (v < f p) → Hit m w a f (max v (f p))
    go (yes y) = (p, j, omega arith)
    go (no n) = (h.0, h.1, omega (arith, h.2))

pub held_pop : {m s : List ℕ} {p : ℕ} {k : List ℕ} → Held m (marking s (p ∷ k)) → Held m (marking s k)
held_pop h = record { long = h.long; flags = h.flags; fewer = omega (arith, h.fewer) }

pub pixel_at_lem : {m : List ℕ} {w a : ℕ} (p : ℕ) → Pixel m w a → Joined m w a p → Pixel m w p
pixel_at_lem {m} p h j = record { inside = dark_inside m p (joined_dark j); wide = h.wide; narrow = h.narrow; whole = h.whole; small = h.small }

module _ {m : List ℕ} {w a : ℕ} {s₀ : List ℕ} (pix : Pixel m w a) (f : Flooding) (p : ℕ) (k : List ℕ) (fe : f.waiting ≡ p ∷ k) (v : Progress m w a s₀ f) where
  abbrev z : Marking
  z = spread m w p (marking f.seen k)

  jp : Joined m w a p
  jp = v.stacked p (subst (Waits p) (sym fe) (newest refl))

  here_pixel : Pixel m w p
  here_pixel = pixel_at_lem p pix jp

  popped : Held m (marking f.seen k)
  popped = held_pop (subst (λ (l : List ℕ). Held m (marking f.seen l)) fe v.held)

  r : Reach m (Touch w p) (marking f.seen k) z
  r = reach_spread (marking f.seen k) here_pixel popped

  around : Around m w z.seen p
  around = spread_marks (marking f.seen k) here_pixel popped

  abbrev b' : Blob
  b' = grow f.blob (p % w) (p / w) (sides m w p)

  -- the sums of what waits, without p
  pop : (g : ℕ → ℕ) → summed g f.waiting ≡ summed g k + g p
  unfolding summed
  pop g = rw fe

  counts : total one (at z.seen) (length m) ≡ total one (at s₀) (length m) + (b'.area + length z.waiting)
  unfolding grow
  counts = omega (arith, v.area, r.even one, summed_one k, summed_one z.waiting, pop one, summed_one f.waiting)

  wait : (q : ℕ) → Waits q (p ∷ k) → Waits q z.waiting ⊎ (Around m w z.seen q × Boxed w b' q)
  wait q (newest e) = inr (subst (Around m w z.seen) (sym e) around, subst (Boxed w b') (sym e) (boxed_new w f.blob p (sides m w p)))
  wait q (older o) = inl (r.still q o)

  old : (q : ℕ) → at f.seen q ≡ 1 → (at s₀ q ≡ 1) ⊎ (Joined m w a q × (Waits q z.waiting ⊎ (Around m w z.seen q × Boxed w b' q)))
  old q e =
      ⊎_elim inl
      (λ x. inr (x.0, ⊎_elim (λ y. wait q (subst (Waits q) fe y)) (λ y. inr (λ u tu du. r.keeps u (y.0 u tu du), boxed_more f.blob p (sides m w p) q y.1)) x.1))
      (v.done q e)

  progress_pop : Progress m w a s₀ (flooding z.seen z.waiting b' (max f.waited (length z.waiting)))
  unfolding grow
  progress_pop =
      record {
        held = r.held;
        keeps = λ q e. r.keeps q (v.keeps q e);
        start = r.keeps a v.start;
        stacked = λ q o. ⊎_elim (λ x. v.stacked q (subst (Waits q) (sym fe) (older x))) (λ x. step jp x.1.0 x.1.1) (r.newer q o);
        done = λ q e. ⊎_elim (old q) (λ x. inr (step jp x.1.0 x.1.1, inl x.0)) (r.fresh q e);
        area = counts;
        sx = omega (arith, v.sx, r.even (column w), pop (column w));
        sy = omega (arith, v.sy, r.even (row w), pop (row w));
        outline = omega (arith, v.outline, r.even (sides m w), pop (sides m w));
        x0 = hit_min (column w) f.blob.x0 jp v.x0;
        x1 = hit_max (column w) f.blob.x1 jp v.x1;
        y0 = hit_min (row w) f.blob.y0 jp v.y0;
        y1 = hit_max (row w) f.blob.y1 jp v.y1;
        some = omega (arith, v.some);
        waited_held = omega (arith, v.waited_held, counts, v.area, ap length fe, r.grows);
      }

progress_take : {m : List ℕ} {w a : ℕ} {s₀ : List ℕ} → Pixel m w a → (f : Flooding) (k : List ℕ) → f.waiting ≡ k → Progress m w a s₀ f → Progress m w a s₀ (take m w f k)
unfolding take
progress_take pix f [] e v = v
progress_take pix f (p ∷ k) e v = progress_pop pix f p k e v

progress_turn : {m : List ℕ} {w a : ℕ} {s₀ : List ℕ} → Pixel m w a → (i : ℕ) (f : Flooding) → Progress m w a s₀ f → Progress m w a s₀ (flood_step m w i f)
unfolding flood_step
progress_turn pix i f v = progress_take pix f f.waiting refl v

pub progress_turns : {m : List ℕ} {w a : ℕ} {s₀ : List ℕ} → Ready m w s₀ a → (n : ℕ) → Progress m w a s₀ (turns n (flood_step m w) (begun w a s₀))
progress_turns {m} {w} {a} {s₀} g n = turns_keep (flood_step m w) (begun w a s₀) (Progress m w a s₀) (progress_start g) (λ i f v. progress_turn g.pixel i f v) n

pub progress_of : {m : List ℕ} {w a : ℕ} {s₀ : List ℕ} {f : Flooding} → Ready m w s₀ a → (n : ℕ) → f ≡ turns n (flood_step m w) (begun w a s₀) → Progress m w a s₀ f
progress_of {m} {w} {a} {s₀} g n e = subst (Progress m w a s₀) (sym e) (progress_turns g n)

-- ---- the bounds of a flood's numbers
pub progress_area : {m : List ℕ} {w a : ℕ} {s₀ : List ℕ} {f : Flooding} → Progress m w a s₀ f → f.blob.area + length f.waiting ≤ length m
progress_area {m} {f = f} v = omega (arith, v.area, total_most one (at f.seen) 1 (length m) v.held.flags (λ q l. omega arith), mul-one (length m))

pub progress_sx : {m : List ℕ} {w a : ℕ} {s₀ : List ℕ} {f : Flooding} → Pixel m w a → Progress m w a s₀ f → f.blob.sx ≤ 16777216 * 4096
progress_sx {m} {w} {f = f} h v =
    omega (arith, v.sx, total_most (column w) (at f.seen) 4096 (length m) v.held.flags (λ q l. omega (arith, mod-lt q h.wide, h.narrow)), mul-le-mul_right 4096 h.small)

pub progress_sy : {m : List ℕ} {w a : ℕ} {s₀ : List ℕ} {f : Flooding} → Pixel m w a → Progress m w a s₀ f → f.blob.sy ≤ 16777216 * 16777216
progress_sy {m} {w} {f = f} h v =
    omega (arith, v.sy, total_most (row w) (at f.seen) 16777216 (length m) v.held.flags (λ q l. omega (arith, div-le_self q w, h.small)), mul-le-mul_right 16777216 h.small)

pub progress_outline : {m : List ℕ} {w a : ℕ} {s₀ : List ℕ} {f : Flooding} → Pixel m w a → Progress m w a s₀ f → f.blob.outline ≤ 16777216 * 4
progress_outline {m} {w} {f = f} h v =
    omega (arith, v.outline, total_most (sides m w) (at f.seen) 4 (length m) v.held.flags (λ q l. sides_most m w q), mul-le-mul_right 4 h.small)

-- ---- the end: a flood that has not ended has counted a pixel in each turn, and there are only so many
take_none : (m : List ℕ) (w : ℕ) (f : Flooding) (k : List ℕ) → k ≡ [] → take m w f k ≡ f
unfolding take
take_none m w f k e = rw e

take_counts : (m : List ℕ) (w : ℕ) (f : Flooding) (k : List ℕ) → (k ≡ []) ⊎ ((take m w f k).blob.area ≡ f.blob.area + 1)
unfolding take grow
take_counts m w f [] = inl refl
take_counts m w f (p ∷ k) = inr refl

pub flood_step_none : (m : List ℕ) (w i : ℕ) (f : Flooding) → f.waiting ≡ [] → flood_step m w i f ≡ f
unfolding flood_step
flood_step_none m w i f e = take_none m w f f.waiting e

flood_step_counts : (m : List ℕ) (w i : ℕ) (f : Flooding) → (f.waiting ≡ []) ⊎ ((flood_step m w i f).blob.area ≡ f.blob.area + 1)
unfolding flood_step
flood_step_counts m w i f = take_counts m w f f.waiting

counted : (m : List ℕ) (w a : ℕ) (s : List ℕ) (n : ℕ) → ((turns n (flood_step m w) (begun w a s)).waiting ≡ []) ⊎ ((turns n (flood_step m w) (begun w a s)).blob.area ≡ n)
unfolding turns begun no_blob
counted m w a s zero = inr refl
counted m w a s (suc n) =
    ⊎_elim (λ e. inl (ap (λ (f : Flooding). f.waiting) (flood_step_none m w n (turns n (flood_step m w) (begun w a s)) e) ∙ e))
    (λ e. ⊎_elim (λ o. inl (ap (λ (f : Flooding). f.waiting) (flood_step_none m w n (turns n (flood_step m w) (begun w a s)) o) ∙ o))
    (λ o. inr (o ∙ ap (λ (x : ℕ). x + 1) e ∙ add-one n)) (flood_step_counts m w n (turns n (flood_step m w) (begun w a s))))
    (counted m w a s n)

empty : (k : List ℕ) → length k ≡ 0 → k ≡ []
empty [] e = refl
empty (p ∷ k) e = absurd (omega arith)

pub flood_ends : {m : List ℕ} {w a : ℕ} {s : List ℕ} → Ready m w s a → (flood m w a s).waiting ≡ []
unfolding flood
flood_ends {m} {w} {a} {s} g = ⊎_elim (λ e. e) (λ e. empty _ (omega (arith, progress_area (progress_turns g (length m)), e))) (counted m w a s (length m))

-- what a flood leaves
pub record Flooded (m : List ℕ) (w a : ℕ) (s : List ℕ) (f : Flooding) : Type 0 where
  pub patch : PatchOf m w a f.blob
  pub long : length f.seen ≡ length m
  pub flags : (q : ℕ) → at f.seen q ≤ 1
  pub keeps : (q : ℕ) → at s q ≡ 1 → at f.seen q ≡ 1
  pub all : (q : ℕ) → Joined m w a q → at f.seen q ≡ 1
  pub only : (q : ℕ) → at f.seen q ≡ 1 → (at s q ≡ 1) ⊎ Joined m w a q
  pub count : total one (at f.seen) (length m) ≡ total one (at s) (length m) + f.blob.area
  pub outline : total (sides m w) (at f.seen) (length m) ≡ total (sides m w) (at s) (length m) + f.blob.outline
  pub some : 1 ≤ f.waited
  pub waited_held : f.waited ≤ f.blob.area

module _ {m : List ℕ} {w a : ℕ} {s₀ : List ℕ} (g : Ready m w s₀ a) (f : Flooding) (v : Progress m w a s₀ f) (fe : f.waiting ≡ []) where
  -- nothing waits
  none_waits : (q : ℕ) → Waits q [] → ⊥
  none_waits q = elim [ ]

  ended : (q : ℕ) → at f.seen q ≡ 1 → (at s₀ q ≡ 1) ⊎ (Joined m w a q × (Around m w f.seen q × Boxed w f.blob q))
  ended q e = ⊎_elim inl (λ x. inr (x.0, ⊎_elim (λ y. absurd (none_waits q (subst (Waits q) fe y))) (λ y. y) x.1)) (v.done q e)

  closed' : Closed m w f.seen
  closed' q z e t d = ⊎_elim (λ o. v.keeps z (g.closed q z o t d)) (λ x. x.1.0 z t d) (ended q e)

  all' : (q : ℕ) → Joined m w a q → at f.seen q ≡ 1
  all' q j = closed_all f.seen closed' v.start j

  -- a pixel of the patch was not marked before
  new : (q : ℕ) → Joined m w a q → at s₀ q ≡ 0
  new q j = go (ℕ_discrete (at s₀ q) 1)
    where
      go : Dec (at s₀ q ≡ 1) → at s₀ q ≡ 0
      go (yes e) = absurd (omega (arith, closed_back s₀ g.closed j e, g.unseen))
      go (no o) = omega (arith, g.flags q)

  mono : (q : ℕ) → at s₀ q ≤ at f.seen q
  mono q = go (ℕ_discrete (at s₀ q) 1)
    where
      go : Dec (at s₀ q ≡ 1) → at s₀ q ≤ at f.seen q
      go (yes e) = omega (arith, v.keeps q e)
      go (no o) = omega (arith, g.flags q)

  marked' : Marks (λ q. at f.seen q - at s₀ q) (Joined m w a)
  marked' q = go (ℕ_discrete (at f.seen q) 1)
    where
      go : Dec (at f.seen q ≡ 1) → ((at f.seen q - at s₀ q ≡ 1) × Joined m w a q) ⊎ ((at f.seen q - at s₀ q ≡ 0) × (Joined m w a q → ⊥))
      go (yes e) = ⊎_elim (λ o. inr (omega arith, λ j. omega (arith, new q j))) (λ x. inl (omega (arith, new q x.0), x.0)) (ended q e)
      go (no o) = inr (omega (arith, v.held.flags q), λ j. o (all' q j))

  box : (q : ℕ) → Joined m w a q → Boxed w f.blob q
  box q j = ⊎_elim (λ o. absurd (omega (arith, new q j, o))) (λ x. x.1.1) (ended q (all' q j))

  none_left : (h : ℕ → ℕ) → summed h f.waiting ≡ 0
  unfolding summed
  none_left h = rw fe

  patch' : PatchOf m w a f.blob
  patch' =
      record {
        marks = λ q. at f.seen q - at s₀ q;
        marked = marked';
        area_is = omega (arith, v.area, ap length fe, total_less one (at f.seen) (at s₀) (length m) mono);
        sx_is = omega (arith, v.sx, none_left (column w), total_less (column w) (at f.seen) (at s₀) (length m) mono);
        sy_is = omega (arith, v.sy, none_left (row w), total_less (row w) (at f.seen) (at s₀) (length m) mono);
        outline_is = omega (arith, v.outline, none_left (sides m w), total_less (sides m w) (at f.seen) (at s₀) (length m) mono);
        x0_is = (λ q j. (box q j).x0, v.x0);
        y0_is = (λ q j. (box q j).y0, v.y0);
        x1_is = (λ q j. (box q j).x1, v.x1);
        y1_is = (λ q j. (box q j).y1, v.y1);
      }

  flooded : Flooded m w a s₀ f
  flooded =
      record {
        patch = patch';
        long = v.held.long;
        flags = v.held.flags;
        keeps = v.keeps;
        all = all';
        only = λ q e. ⊎_elim inl (λ x. inr x.0) (ended q e);
        count = omega (arith, v.area, ap length fe);
        outline = omega (arith, v.outline, none_left (sides m w));
        some = v.some;
        waited_held = omega (arith, v.waited_held, v.area, ap length fe);
      }

pub flood_does : {m : List ℕ} {w a : ℕ} {s : List ℕ} → Ready m w s a → Flooded m w a s (flood m w a s)
unfolding flood
flood_does {m} {w} {a} {s} g = flooded g (turns (length m) (flood_step m w) (begun w a s)) (progress_turns g (length m)) (unfold flood in flood_ends g)
