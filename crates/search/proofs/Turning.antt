-- A search of turns comes to what the three stages come to, in at most 78 turns. Assumes nothing.
use mathlib.Core.Path.{◌≡◌, refl, sym, ap, subst, ◌∙◌}
use mathlib.Core.Bool.{Bool, true, false, cond, ◌&&◌}
use mathlib.Core.Logic.{⊎_elim}
use Prim.Native.Nat.{ℕ, zero, suc, ◌+◌, ◌-◌, ◌≤◌, ◌<◌}
use native.Mathlib.Omega.{arith}
use lib.Dec.{ltb, lit<}
use lib.Ieee.{Float}
use borrow.Author.Tests.{lt-ltb, ltb-true}
use Rattle.base.specs.Loops.{turns}
use Rattle.base.proofs.Turns.{turns_begin, turns_step}
use Rattle.base.proofs.Arith.{le_or_lt}
use Rattle.base.proofs.Pick.{pick_yes, pick_no}
use Rattle.float.specs.Floats.{f64}
use Rattle.base.proofs.Tests.{and_left, and_right}
use Rattle.frame.specs.Image.{Image}
use Rattle.frame.specs.declared.FrameSpec.{FrameSpec}
use Rattle.frame.specs.declared.Quad.{Quad}
use Rattle.search.specs.declared.Outcome.{Outcome}
use Rattle.search.specs.declared.Outcome.TheVariants.{NoHomography, Graded}
use Rattle.search.specs.declared.Stage.{Stage}
use Rattle.search.specs.declared.Search.{Search}
use Rattle.search.specs.Stages.{entries, trial_step, begun, keeps, outcome_of, k_at, fresh, stage_from, next_stage, on_kept, first_stage, second_stage, searched}
use Rattle.fit.specs.Fits.{fit_for}
use Rattle.search.specs.Turn.{beginning, advanced, turn_of, Counting}
use Rattle.search.proofs.Cases.{staged_counts, mapped_most, advanced_entry, advanced_stage, advanced_over}
use Rattle.search.proofs.Entries.{stage_lengths}
use Rattle.search.proofs.Terms.{fresh_most}

-- ---- the next entry's counts are those of this one
advanced_counts : (s : Search) (t : Stage) → ((advanced s t).stage.tried ≡ t.tried) × ((advanced s t).stage.homographies ≡ t.homographies)
unfolding advanced
advanced_counts s t = go (ltb (s.entry + 1) (entries s.number)) (keeps t.kept && ltb s.number 2)
  where
    go : (a b : Bool)
        → (let r : Search =
        cond a
        (record { number = s.number; entry = s.entry + 1; center = s.center; stage = t; ended = false })
        (cond b
        (record { number = s.number + 1; entry = 0; center = t.fit.radial.k; stage = begun t.tried t.homographies; ended = false })
        (record { number = s.number; entry = s.entry; center = s.center; stage = t; ended = true })) in
        (r.stage.tried ≡ t.tried) × (r.stage.homographies ≡ t.homographies))
    go true b = (refl, refl)
    go false true = (refl, refl)
    go false false = (refl, refl)

-- ---- the most turns that are left
unfoldable rest : ℕ → ℕ
rest zero = 78
rest (suc zero) = 37
rest (suc (suc n)) = 16

unfoldable pub left : Search → ℕ
unfolding rest
left s = cond s.ended 0 (rest s.number - s.entry)

rest_in : (j : ℕ) → j < 3 → entries j ≤ rest j
unfolding rest
rest_in zero h = omega (arith, stage_lengths.0)
rest_in (suc zero) h = omega (arith, stage_lengths.1)
rest_in (suc (suc zero)) h = omega (arith, stage_lengths.2)
rest_in (suc (suc (suc n))) h = absurd (omega arith)

rest_next : (j : ℕ) → j < 2 → rest j ≡ entries j + rest (j + 1)
unfolding rest
rest_next zero h = omega (arith, stage_lengths.0)
rest_next (suc zero) h = omega (arith, stage_lengths.1)
rest_next (suc (suc n)) h = absurd (omega arith)

entries_most : (j : ℕ) → j < 3 → entries j ≤ 41
entries_most zero h = omega (arith, stage_lengths.0)
entries_most (suc zero) h = omega (arith, stage_lengths.1)
entries_most (suc (suc zero)) h = omega (arith, stage_lengths.2)
entries_most (suc (suc (suc n))) h = absurd (omega arith)

left_going : (s : Search) (j : ℕ) → s.ended ≡ false → s.number ≡ j → left s ≡ rest j - s.entry
unfolding left
left_going s j e n = sym (pick_no _ _ _ e) ∙ ap (λ i. rest i - s.entry) n

left_over : (s : Search) → s.ended ≡ true → left s ≡ 0
unfolding left
left_over s e = sym (pick_yes _ _ _ e)

-- no count passes 78
pub record Held (s : Search) : Type 0 where
  pub tried_in : s.stage.tried + left s ≤ 78
  pub homographies_in : s.stage.homographies ≤ s.stage.tried

pub held_beginning : Held beginning
unfolding beginning left rest
held_beginning = record { tried_in = omega arith; homographies_in = omega arith }

module _ (img : Image) (f : FrameSpec) (q : Quad) where
  -- the search is within stage j around a centre, which began with the given counts
  pub record Within (j : ℕ) (center : Float) (tried homographies : ℕ) (s : Search) : Type 0 where
    pub going : s.ended ≡ false
    pub numbered : s.number ≡ j
    pub around : s.center ≡ center
    pub entry_in : s.entry < entries j
    pub so_far : s.stage ≡ turns s.entry (trial_step img f q j center) (begun tried homographies)

  -- where turns from the beginning come to
  pub data Reached (s : Search) : Type 0 where
    in_first : Within 0 (f64 0) 0 0 s → Reached s
    in_second : keeps (first_stage img f q).kept ≡ true → Within 1 (first_stage img f q).fit.radial.k (first_stage img f q).tried (first_stage img f q).homographies s → Reached s
    in_third : keeps (second_stage img f q).kept ≡ true → Within 2 (second_stage img f q).fit.radial.k (second_stage img f q).tried (second_stage img f q).homographies s → Reached s
    over : s.ended ≡ true → s.stage ≡ searched img f q → Reached s

  pub begins : Reached beginning
  unfolding beginning
  begins = in_first (record { going = refl; numbered = refl; around = refl; entry_in = omega (arith, stage_lengths.0); so_far = turns_begin _ _ })

  -- ---- one turn within a stage
  data Turned (j : ℕ) (center : Float) (tried homographies : ℕ) (s : Search) : Type 0 where
    more : Within j center tried homographies (turn_of img f q s) → (turn_of img f q s).entry ≡ s.entry + 1 → Turned j center tried homographies s
    next : keeps (stage_from img f q j center tried homographies).kept ≡ true → j < 2 → s.entry + 1 ≡ entries j
        → turn_of img f q s
        ≡ record {
          number = j + 1;
          entry = 0;
          center = (stage_from img f q j center tried homographies).fit.radial.k;
          stage = begun (stage_from img f q j center tried homographies).tried (stage_from img f q j center tried homographies).homographies;
          ended = false;
        }
        → Turned j center tried homographies s
    last : (keeps (stage_from img f q j center tried homographies).kept && ltb j 2) ≡ false
        → (turn_of img f q s).ended ≡ true → (turn_of img f q s).stage ≡ stage_from img f q j center tried homographies → Turned j center tried homographies s

  module _ (j : ℕ) (center : Float) (tried homographies : ℕ) (s : Search) (r : Within j center tried homographies s) where
    turn_is : turn_of img f q s ≡ advanced s (turns (s.entry + 1) (trial_step img f q j center) (begun tried homographies))
    unfolding turn_of
    turn_is =
        sym (pick_no _ _ _ r.going)
        ∙ ap (λ (z : ℕ). advanced s (trial_step img f q z s.center s.entry s.stage)) r.numbered
        ∙ ap (λ (z : Float). advanced s (trial_step img f q j z s.entry s.stage)) r.around
        ∙ ap (advanced s) (turns_step (trial_step img f q j center) (begun tried homographies) s.entry r.so_far)

    within_more : s.entry + 1 < entries j → Turned j center tried homographies s
    within_more h =
        let t = turns (s.entry + 1) (trial_step img f q j center) (begun tried homographies) in
        let z : Search = record { number = s.number; entry = s.entry + 1; center = s.center; stage = t; ended = false } in
        let e : z ≡ turn_of img f q s = advanced_entry s t (subst (λ n. s.entry + 1 < entries n) (sym r.numbered) h) ∙ sym turn_is in
        let w : Within j center tried homographies z = record { going = refl; numbered = r.numbered; around = r.around; entry_in = h; so_far = refl } in
        more (subst (Within j center tried homographies) e w) (sym (ap (λ (y : Search). y.entry) e))

    turn_last : s.entry + 1 ≡ entries j → turn_of img f q s ≡ advanced s (stage_from img f q j center tried homographies)
    unfolding stage_from
    turn_last h = turn_is ∙ ap (λ n. advanced s (turns n (trial_step img f q j center) (begun tried homographies))) h

    at_last : s.entry + 1 ≡ entries j → entries s.number ≤ s.entry + 1
    at_last h = subst (λ n. entries n ≤ s.entry + 1) (sym r.numbered) (omega arith)

    within_last : s.entry + 1 ≡ entries j → (b : Bool) → (keeps (stage_from img f q j center tried homographies).kept && ltb j 2) ≡ b → Turned j center tried homographies s
    within_last h false e =
        let t = stage_from img f q j center tried homographies in
        let z : Search = record { number = s.number; entry = s.entry; center = s.center; stage = t; ended = true } in
        let d : z ≡ turn_of img f q s =
        advanced_over s t (at_last h) (ap (λ n. keeps t.kept && ltb n 2) r.numbered ∙ e) ∙ sym (turn_last h) in
        last e (sym (ap (λ (y : Search). y.ended) d)) (sym (ap (λ (y : Search). y.stage) d))
    within_last h true e =
        let t = stage_from img f q j center tried homographies in
        let k : keeps t.kept ≡ true = and_left (keeps t.kept) (ltb j 2) e in
        let l : j < 2 = ltb-true j 2 (and_right (keeps t.kept) (ltb j 2) e) in
        let z : Search = record { number = s.number + 1; entry = 0; center = t.fit.radial.k; stage = begun t.tried t.homographies; ended = false } in
        let d : z ≡ turn_of img f q s =
        advanced_stage s t (at_last h) k (subst (λ n. n < 2) (sym r.numbered) l) ∙ sym (turn_last h) in
        next k l h
        (sym d ∙ ap (λ (n : ℕ). record { number = n + 1; entry = 0; center = t.fit.radial.k; stage = begun t.tried t.homographies; ended = false }) r.numbered)

    turned : Turned j center tried homographies s
    turned =
        ⊎_elim
        (λ h. within_last (omega (arith, r.entry_in)) (keeps (stage_from img f q j center tried homographies).kept && ltb j 2) refl)
        within_more
        (le_or_lt (entries j) (s.entry + 1))

    left_less : j < 3 → Turned j center tried homographies s → left (turn_of img f q s) < left s
    left_less b (more w e) =
        let p : left s ≡ rest j - s.entry = left_going s j r.going r.numbered in
        let d : left (turn_of img f q s) ≡ rest j - (turn_of img f q s).entry = left_going (turn_of img f q s) j w.going w.numbered in
        omega (arith, rest_in j b, r.entry_in)
    left_less b (next k l e d) =
        let p : left s ≡ rest j - s.entry = left_going s j r.going r.numbered in
        let g : left (turn_of img f q s) ≡ rest (j + 1) - (turn_of img f q s).entry =
        left_going (turn_of img f q s) (j + 1) (ap (λ (y : Search). y.ended) d) (ap (λ (y : Search). y.number) d) in
        omega (arith, rest_next j l, ap (λ (y : Search). y.entry) d)
    left_less b (last k e d) =
        let p : left s ≡ rest j - s.entry = left_going s j r.going r.numbered in
        let g : left (turn_of img f q s) ≡ 0 = left_over (turn_of img f q s) e in
        omega (arith, rest_in j b, r.entry_in)

    counting : j < 3 → Held s → Counting s
    counting b h =
        record {
          number_held = omega (arith, r.numbered);
          entry_held = omega (arith, r.entry_in, entries_most j b);
          tried_held = omega (arith, h.tried_in);
          homographies_held = omega (arith, h.tried_in, h.homographies_in);
        }

  -- ---- from stage to stage
  next_is : (j : ℕ) (s : Stage) → keeps s.kept ≡ true → next_stage img f q j s ≡ stage_from img f q j s.fit.radial.k s.tried s.homographies
  unfolding next_stage keeps
  next_is j s k = go s.kept k
    where
      go : (o : Outcome) → keeps o ≡ true → on_kept o s (stage_from img f q j s.fit.radial.k s.tried s.homographies)
          ≡ stage_from img f q j s.fit.radial.k s.tried s.homographies
      go NoHomography k = cc
      go (Graded g) k = refl

  next_none : (j : ℕ) (s : Stage) → keeps s.kept ≡ false → next_stage img f q j s ≡ s
  unfolding next_stage keeps
  next_none j s k = go s.kept k
    where
      go : (o : Outcome) → keeps o ≡ false → on_kept o s (stage_from img f q j s.fit.radial.k s.tried s.homographies) ≡ s
      go NoHomography k = refl
      go (Graded g) k = cc

  -- none kept before the third stage
  none_kept : (j : ℕ) (t : Stage) → j < 2 → (keeps t.kept && ltb j 2) ≡ false → keeps t.kept ≡ false
  none_kept j t l e = go (keeps t.kept) (ltb j 2) (lt-ltb j 2 l) e
    where
      go : (a b : Bool) → b ≡ true → (a && b) ≡ false → a ≡ false
      go true b h e = cc
      go false b h e = refl

  -- the first head of a stage
  enters : (j : ℕ) (t : Stage) → 0 < entries j → Within j t.fit.radial.k t.tried t.homographies (record {
    number = j;
    entry = 0;
    center = t.fit.radial.k;
    stage = begun t.tried t.homographies;
    ended = false;
  })
  enters j t h = record { going = refl; numbered = refl; around = refl; entry_in = h; so_far = turns_begin _ _ }

  searched_first : keeps (first_stage img f q).kept ≡ false → first_stage img f q ≡ searched img f q
  unfolding searched second_stage
  searched_first n = sym (ap (next_stage img f q 2) (next_none 1 (first_stage img f q) n) ∙ next_none 2 (first_stage img f q) n)

  after_first : (s : Search) → Turned 0 (f64 0) 0 0 s → Reached (turn_of img f q s)
  unfolding first_stage
  after_first s (more w e) = in_first w
  after_first s (next k l h d) = in_second k (subst (Within 1 _ _ _) (sym d) (enters 1 (first_stage img f q) (omega (arith, stage_lengths.1))))
  after_first s (last k e d) =
      let n : keeps (first_stage img f q).kept ≡ false = none_kept 0 (first_stage img f q) (lit< tt) k in
      over e (d ∙ searched_first n)

  abbrev second : Stage
  second = stage_from img f q 1 (first_stage img f q).fit.radial.k (first_stage img f q).tried (first_stage img f q).homographies

  second_is : keeps (first_stage img f q).kept ≡ true → second ≡ second_stage img f q
  unfolding second_stage
  second_is g = sym (next_is 1 (first_stage img f q) g)

  searched_second : keeps (second_stage img f q).kept ≡ false → second_stage img f q ≡ searched img f q
  unfolding searched
  searched_second n = sym (next_none 2 (second_stage img f q) n)

  searched_third : keeps (second_stage img f q).kept ≡ true → stage_from img f q 2 (second_stage img f q).fit.radial.k (second_stage img f q
      ).tried (second_stage img f q).homographies ≡ searched img f q
  unfolding searched
  searched_third g = sym (next_is 2 (second_stage img f q) g)

  after_second : (s : Search) → keeps (first_stage img f q).kept ≡ true → Turned 1 (first_stage img f q).fit.radial.k (first_stage img f q
      ).tried (first_stage img f q).homographies s → Reached (turn_of img f q s)
  after_second s g (more w e) = in_second g w
  after_second s g (next k l h d) =
      let e : turn_of img f q s ≡ record {
        number = 2;
        entry = 0;
        center = (second_stage img f q).fit.radial.k;
        stage = begun (second_stage
            img f q).tried (second_stage img f q).homographies;
        ended = false;
      } =
      d ∙ ap (λ (t : Stage). record { number = 2; entry = 0; center = t.fit.radial.k; stage = begun t.tried t.homographies; ended = false }) (second_is g) in
      let w : keeps (second_stage img f q).kept ≡ true = ap (λ (t : Stage). keeps t.kept) (sym (second_is g)) ∙ k in
      in_third w (subst (Within 2 _ _ _) (sym e) (enters 2 (second_stage img f q) (omega (arith, stage_lengths.2))))
  after_second s g (last k e d) =
      let m : keeps second.kept ≡ false = none_kept 1 second (lit< tt) k in
      let n : keeps (second_stage img f q).kept ≡ false = ap (λ (t : Stage). keeps t.kept) (sym (second_is g)) ∙ m in
      over e (d ∙ second_is g ∙ searched_second n)

  after_third : (s : Search) → keeps (second_stage img f q).kept ≡ true → Turned 2 (second_stage img f q).fit.radial.k (second_stage img f
      q).tried (second_stage img f q).homographies s → Reached (turn_of img f q s)
  after_third s g (more w e) = in_third g w
  after_third s g (next k l h d) = absurd (omega arith)
  after_third s g (last k e d) = over e (d ∙ searched_third g)

  turn_over : (s : Search) → s.ended ≡ true → s ≡ turn_of img f q s
  unfolding turn_of
  turn_over s e = pick_yes _ _ _ e

  -- a turn stays on the way
  pub turn_reached : (s : Search) → Reached s → Reached (turn_of img f q s)
  turn_reached s (in_first r) = after_first s (turned 0 (f64 0) 0 0 s r)
  turn_reached s (in_second g r) = after_second s g (turned 1 _ _ _ s r)
  turn_reached s (in_third g r) = after_third s g (turned 2 _ _ _ s r)
  turn_reached s (over e d) = subst Reached (turn_over s e) (over e d)

  -- .. and comes nearer to the end
  pub turn_left : (s : Search) → Reached s → s.ended ≡ false → left (turn_of img f q s) < left s
  turn_left s (in_first r) e = left_less 0 _ _ _ s r (lit< tt) (turned 0 _ _ _ s r)
  turn_left s (in_second g r) e = left_less 1 _ _ _ s r (lit< tt) (turned 1 _ _ _ s r)
  turn_left s (in_third g r) e = left_less 2 _ _ _ s r (lit< tt) (turned 2 _ _ _ s r)
  turn_left s (over d g) e = cc

  pub turn_held : (s : Search) → Reached s → s.ended ≡ false → Held s → Held (turn_of img f q s)
  turn_held s r e h =
      let t = trial_step img f q s.number s.center s.entry s.stage in
      let is : turn_of img f q s ≡ advanced s t = unfold turn_of in sym (pick_no _ _ _ e) in
      let a = advanced_counts s t in
      let n = fresh s.number s.center s.entry in
      let o = outcome_of img f q (k_at s.number s.center s.entry) in
      let b = staged_counts n o (fit_for img.w img.h f q (k_at s.number s.center s.entry)) s.stage in
      let x : (turn_of img f q s).stage.tried ≡ s.stage.tried + n = ap (λ (z : Search). z.stage.tried) is ∙ a.0 ∙ b.0 in
      let y : (turn_of img f q s).stage.homographies ≡ t.homographies = ap (λ (z : Search). z.stage.homographies) is ∙ a.1 in
      record {
        tried_in = omega (arith, fresh_most s.number s.center s.entry, turn_left s r e, h.tried_in);
        homographies_in = omega (arith, b.1, mapped_most o n, h.homographies_in);
      }

  pub turn_counting : (s : Search) → Reached s → s.ended ≡ false → Held s → Counting s
  turn_counting s (in_first r) e h = counting 0 _ _ _ s r (lit< tt) h
  turn_counting s (in_second g r) e h = counting 1 _ _ _ s r (lit< tt) h
  turn_counting s (in_third g r) e h = counting 2 _ _ _ s r (lit< tt) h
  turn_counting s (over d g) e h = cc

  -- the end
  pub ended_searched : (s : Search) → Reached s → s.ended ≡ true → s.stage ≡ searched img f q
  ended_searched s (in_first r) e = cc
  ended_searched s (in_second g r) e = cc
  ended_searched s (in_third g r) e = cc
  ended_searched s (over d g) e = g
