-- The number that labelling reports is the most that the search's stack ever holds: the functions of Stack go through moments of the
-- search, and through every moment that there is. Assumes nothing.
use Prim.Native.Nat.{ℕ, zero, suc, ◌≤◌, ◌<◌, max}
use native.Mathlib.Decide.{dec_lt, ℕ_discrete}
use native.Mathlib.Nat.{le_antisymm}
use native.Mathlib.Omega.{arith}
use mathlib.Core.Path.{◌≡◌, refl, sym, ap, ◌∙◌, subst}
use mathlib.Core.List.{List, [], ◌∷◌}
use mathlib.Core.Logic.{◌⊎◌, inl, inr, ⊎_elim}
use lib.Dec.{eqb}
use lib.ListN.{length, get_or}
use Rattle.base.specs.Loops.{turns}
use Rattle.base.proofs.Pick.{cond_elim}
use Rattle.base.proofs.Turns.{turns_keep, turns_stay}
use Rattle.blobs.specs.Stack.{Marking, marking, visit_left, visit_right, visit_up, visit_down, spread, Flooding, begun, take, flood_step, flood}
use Rattle.blobs.specs.Stack.{Scanned, listed, scan, unmarked, scan_all, waited_of}
use Rattle.blobs.specs.Ready.{at, Ready, Sized}
use Rattle.blobs.specs.Moments.{DarkUnmarked, put, Phase, Moment, Holds, MostHeld, OneMost}
use Rattle.blobs.specs.Moments.Phase.{between, before_left, before_right, before_up, before_down}
use Rattle.blobs.specs.Moments.Moment.{start, pass, begin, taken, left, right, up, down}
use Rattle.blobs.proofs.Grid.{dark_inside}
use Rattle.blobs.proofs.Floods.{flood_ends}
use Rattle.blobs.proofs.Scans.{scan_ready, scan_turns}
use Rattle.blobs.proofs.Stacks.{flood_stays, flood_is, scan_light, scan_seen, scan_list}
use Rattle.blobs.proofs.Visits.{dark-unmarked?, left_has, right_has, up_has, down_has, visit_left_lem, visit_right_lem, visit_up_lem, visit_down_lem, visit_grows}

pub one_most : OneMost
one_most m w n o a b = le_antisymm (b.no_more n a.reached) (a.no_more o b.reached)

max_either : (P : ℕ → Type 0) (x y : ℕ) → P x → P y → P (max x y)
max_either P x y p q = go (dec_lt x y)
  where
    go : Dec (x < y) → P (max x y)
    go (yes l) = let e : y ≡ max x y = omega arith in subst P e q
    go (no l) = let e : x ≡ max x y = omega arith in subst P e p

-- ---- a turn and a scan's step count no less
take_waited : (m : List ℕ) (w : ℕ) (f : Flooding) (k : List ℕ) → f.waited ≤ (take m w f k).waited
unfolding take
take_waited m w f [] = omega arith
take_waited m w f (p ∷ k) = omega arith

flood_step_waited : (m : List ℕ) (w i : ℕ) (f : Flooding) → f.waited ≤ (flood_step m w i f).waited
unfolding flood_step
flood_step_waited m w i f = take_waited m w f f.waiting

scan_waited : (m : List ℕ) (w i : ℕ) (c : Scanned) → c.waited ≤ (scan m w i c).waited
unfolding scan
scan_waited m w i c =
    cond_elim (λ s. c.waited ≤ s.waited) (eqb (get_or m i 0) 0) c _ (λ e. omega arith)
    (λ e. cond_elim (λ s. c.waited ≤ s.waited) (eqb (get_or c.seen i 0) 0) (listed c (flood m w i c.seen)) c (λ z. omega arith) (λ z. omega arith))

-- .. and a turn no less than wait then
take_enough : (m : List ℕ) (w : ℕ) (f : Flooding) (k : List ℕ) → length f.waiting ≤ f.waited → length (take m w f k).waiting ≤ (take m w f k).waited
unfolding take
take_enough m w f [] h = h
take_enough m w f (p ∷ k) h = omega arith

flood_step_enough : (m : List ℕ) (w i : ℕ) (f : Flooding) → length f.waiting ≤ f.waited → length (flood_step m w i f).waiting ≤ (flood_step m w i f).waited
unfolding flood_step
flood_step_enough m w i f h = take_enough m w f f.waiting h

begun_enough : (w i : ℕ) (s : List ℕ) → length (begun w i s).waiting ≤ (begun w i s).waited
unfolding begun
begun_enough w i s = omega arith

-- ---- the search as functions
abbrev held : Flooding → Marking
held f = marking f.seen f.waiting

-- the scan before the pixel i
abbrev scan_to : List ℕ → ℕ → ℕ → Scanned
scan_to m w i = turns i (scan m w) (unmarked m)

-- none waits before a patch begins
abbrev idle : List ℕ → ℕ → ℕ → Marking
idle m w i = marking (scan_to m w i).seen []

-- the flood of the pixel i after t turns, and whole
abbrev flood_to : List ℕ → ℕ → ℕ → ℕ → Flooding
flood_to m w i t = turns t (flood_step m w) (begun w i (scan_to m w i).seen)

abbrev whole : List ℕ → ℕ → ℕ → Flooding
whole m w i = flood m w i (scan_to m w i).seen

-- the scan's step, by whether a patch begins
module _ (m : List ℕ) (w i : ℕ) where
  scan_next : DarkUnmarked m (idle m w i) i → listed (scan_to m w i) (whole m w i) ≡ scan_to m w (suc i)
  unfolding turns
  scan_next s = scan_list m w i (scan_to m w i) s.0 s.1

  scan_on : (DarkUnmarked m (idle m w i) i → ⊥) → scan_to m w i ≡ scan_to m w (suc i)
  unfolding turns
  scan_on o = go (ℕ_discrete (at m i) 0)
    where
      go : Dec (at m i ≡ 0) → scan_to m w i ≡ scan m w i (scan_to m w i)
      go (yes e) = scan_light m w i (scan_to m w i) e
      go (no d) = scan_seen m w i (scan_to m w i) (λ u. o (d, u))

-- ---- what the functions go through are moments

-- a is a moment's, between two turns, and n pixels wait at some moment
abbrev Counted : List ℕ → ℕ → ℕ → Marking → ℕ → Type 0
Counted m w i a n = Moment m w i between a × Holds m w n

abbrev CountedScan : List ℕ → ℕ → ℕ → Scanned → Type 0
CountedScan m w i c = Counted m w i (marking c.seen []) c.waited

module _ (m : List ℕ) (w i : ℕ) (wide : 0 < w) where
  take_moment : (f : Flooding) → Counted m w i (held f) f.waited → (k : List ℕ) → f.waiting ≡ k → Counted m w i (held (take m w f k)) (take m w f k).waited
  unfolding take spread
  take_moment f o [] e = o
  take_moment f o (p ∷ k) e =
      let b = down (up (right (left (taken o.0 e) (left_has m w p _ wide)) (right_has m w p _)) (up_has m w p _)) (down_has m w p _) in
      (b, max_either (Holds m w) f.waited _ o.1 (i, between, _, b, refl))

  turn_moment : (j : ℕ) (f : Flooding) → Counted m w i (held f) f.waited → Counted m w i (held (flood_step m w j f)) (flood_step m w j f).waited
  unfolding flood_step
  turn_moment j f o = take_moment f o f.waiting refl

flood_moment : (m : List ℕ) (w i : ℕ) → 0 < w → Moment m w i between (idle m w i) → DarkUnmarked m (idle m w i) i → (t : ℕ)
    → Counted m w (suc i) (held (flood_to m w i t)) (flood_to m w i t).waited
unfolding begun
flood_moment m w i wide o s t =
    let b = begin o refl s in
    turns_keep (flood_step m w) (begun w i (scan_to m w i).seen) (λ f. Counted m w (suc i) (held f) f.waited) (b, (suc i, between, _, b, refl)) (turn_moment m w (suc i) wide) t

module _ {m : List ℕ} {w h : ℕ} (g : Sized m w h) where
  ready : (i : ℕ) → DarkUnmarked m (idle m w i) i → Ready m w (scan_to m w i).seen i
  ready i s = let l = dark_inside m i s.0 in scan_ready (scan_turns g i (omega arith)) l s.0 s.1

  begins : (i : ℕ) → CountedScan m w i (scan_to m w i) → DarkUnmarked m (idle m w i) i → CountedScan m w (suc i) (listed (scan_to m w i) (whole m w i))
  unfolding flood
  begins i o s =
      let f = flood_moment m w i g.wide o.0 s (length m) in
      let e : (flood_to m w i (length m)).waiting ≡ [] = unfold flood in flood_ends (ready i s) in (
        subst (λ k. Moment m w (suc i) between (marking (flood_to m w i (length m)).seen k)) e f.0,
        max_either (Holds m w) (scan_to m w i).waited _ o.1 f.1,
      )

  scan_step : (i : ℕ) → i < length m → CountedScan m w i (scan_to m w i) → Dec (DarkUnmarked m (idle m w i) i) → CountedScan m w (suc i) (scan_to m w (suc i))
  scan_step i l o (yes s) = subst (CountedScan m w (suc i)) (scan_next m w i s) (begins i o s)
  scan_step i l o (no n) = subst (CountedScan m w (suc i)) (scan_on m w i n) (pass o.0 refl l n, o.1)

  scan_moment : (i : ℕ) → i ≤ length m → CountedScan m w i (scan_to m w i)
  unfolding turns unmarked
  scan_moment zero l = (start, (0, between, _, start, refl))
  scan_moment (suc i) l = unfold turns in scan_step i l (scan_moment i (omega arith)) (dark-unmarked? m (idle m w i) i)

-- ---- every moment is one of them

-- the pixel before i starts a patch, and f is its flood after some turns
record InFlood (m : List ℕ) (w i : ℕ) (f : Flooding) : Type 0 where
  first : ℕ
  times : ℕ
  next : i ≡ suc first
  starts : DarkUnmarked m (idle m w first) first
  is : f ≡ flood_to m w first times

-- .. and the pixel p, the newest of those waiting, is taken, and some of its neighbours were visited
record Around (m : List ℕ) (w i p : ℕ) (visited : Marking → Marking) (a : Marking) : Type 0 where
  flooding : Flooding
  older : List ℕ
  flooded : InFlood m w i flooding
  newest : flooding.waiting ≡ p ∷ older
  is : a ≡ visited (marking flooding.seen older)

-- where the functions stand at a moment: before the pixel i, or within a flood
unfoldable Passed : List ℕ → ℕ → ℕ → Phase → Marking → Type 0
Passed m w i between a = ((i ≤ length m) × (a ≡ idle m w i)) ⊎ ((f : Flooding) × InFlood m w i f × (a ≡ held f))
Passed m w i (before_left p) a = Around m w i p (λ b. b) a
Passed m w i (before_right p) a = Around m w i p (visit_left m w p) a
Passed m w i (before_up p) a = Around m w i p (λ b. visit_right m w p (visit_left m w p b)) a
Passed m w i (before_down p) a = Around m w i p (λ b. visit_up m w p (visit_right m w p (visit_left m w p b))) a

visited_more : {m : List ℕ} {w i p : ℕ} {v : Marking → Marking} {a b : Marking} (u : Marking → Marking) → Around m w i p v a → b ≡ u a → Around m w i p (λ c. u (v c)) b
visited_more u x e = record { flooding = x.flooding; older = x.older; flooded = x.flooded; newest = x.newest; is = e ∙ ap u x.is }

-- the turn that takes p
take_newest : (m : List ℕ) (w j : ℕ) (f : Flooding) (p : ℕ) (k : List ℕ) → f.waiting ≡ p ∷ k → held (flood_step m w j f) ≡ spread m w p (marking f.seen k)
unfolding flood_step take
take_newest m w j f p k e = ap (λ l. held (take m w f l)) e

after : {m : List ℕ} {w i : ℕ} {f : Flooding} (n : InFlood m w i f) → InFlood m w i (flood_step m w n.times f)
unfolding turns
after {m} {w} n = record { first = n.first; times = suc n.times; next = n.next; starts = n.starts; is = ap (flood_step m w n.times) n.is }

module _ {m : List ℕ} {w h : ℕ} (g : Sized m w h) where
  -- more turns than pixels change nothing
  flood_later : (j t : ℕ) → DarkUnmarked m (idle m w j) j → length m ≤ t → whole m w j ≡ flood_to m w j t
  unfolding flood
  flood_later j t s l = flood_stays m w j (scan_to m w j).seen (length m) t (flood_to m w j (length m)) (unfold flood in flood_ends (ready g j s)) l refl

  flood_ended : (j t : ℕ) → DarkUnmarked m (idle m w j) j → (flood_to m w j t).waiting ≡ [] → flood_to m w j t ≡ whole m w j
  flood_ended j t s e = go (dec_lt (length m) t)
    where
      go : Dec (length m < t) → flood_to m w j t ≡ whole m w j
      go (yes l) = sym (flood_later j t s (omega arith))
      go (no l) = flood_is m w j (scan_to m w j).seen t (flood_to m w j t) e (omega arith) refl

  flood_most : (j t : ℕ) → DarkUnmarked m (idle m w j) j → (flood_to m w j t).waited ≤ (whole m w j).waited
  unfolding flood
  flood_most j t s = go (dec_lt (length m) t)
    where
      go : Dec (length m < t) → (flood_to m w j t).waited ≤ (flood m w j (scan_to m w j).seen).waited
      go (yes l) = omega (arith, ap (λ (f : Flooding). f.waited) (flood_later j t s (omega arith)))
      go (no l) =
          turns_stay (flood_step m w) (begun w j (scan_to m w j).seen) (λ x. (flood_to m w j t).waited ≤ x.waited)
          (λ k x p. omega (arith, p, flood_step_waited m w k x)) t (length m) (omega arith) (omega arith)

  -- when a flood has ended, the scan goes on
  ended : {i : ℕ} {f : Flooding} → InFlood m w i f → f.waiting ≡ [] → held f ≡ idle m w i
  ended {i} {f} n e =
      let j = n.first in
      let a : f ≡ whole m w j = n.is ∙ flood_ended j n.times n.starts (ap (λ (x : Flooding). x.waiting) (sym n.is) ∙ e) in
      let b : f.seen ≡ (scan_to m w i).seen =
      ap (λ (x : Flooding). x.seen) a ∙ ap (λ (c : Scanned). c.seen) (scan_next m w j n.starts) ∙ ap (λ (k : ℕ). (scan_to m w k).seen) (sym n.next) in
      λ x. marking (b x) (e x)

  inside : {i : ℕ} {f : Flooding} → InFlood m w i f → i ≤ length m
  inside n = omega (arith, n.next, dark_inside m n.first n.starts.0)

  none_waits : (i : ℕ) (a : Marking) → Passed m w i between a → a.waiting ≡ [] → (i ≤ length m) × (a ≡ idle m w i)
  unfolding Passed
  none_waits i a x e =
      ⊎_elim (λ y. y) (λ y. (inside y.1, y.2 ∙ ended y.1 (ap (λ (b : Marking). b.waiting) (sym y.2) ∙ e))) x

  -- ---- each step of the search
  pass_case : (i : ℕ) (a : Marking) → Passed m w i between a → a.waiting ≡ [] → i < length m → (DarkUnmarked m a i → ⊥) → Passed m w (suc i) between a
  unfolding Passed
  pass_case i a x e l o =
      let y = none_waits i a (unfold Passed in x) e in
      inl (l, y.1 ∙ ap (λ (c : Scanned). marking c.seen []) (scan_on m w i (subst (λ b. DarkUnmarked m b i → ⊥) y.1 o)))

  begin_case : (i : ℕ) (a : Marking) → Passed m w i between a → a.waiting ≡ [] → DarkUnmarked m a i → Passed m w (suc i) between (put i a)
  unfolding Passed turns begun
  begin_case i a x e s =
      let y = none_waits i a (unfold Passed in x) e in
      inr (
        flood_to m w i 0,
        record { first = i; times = 0; next = refl; starts = subst (λ b. DarkUnmarked m b i) y.1 s; is = refl },
        ap (put i) y.1,
      )

  taken_case : (i p : ℕ) (a : Marking) (k : List ℕ) → Passed m w i between a → a.waiting ≡ p ∷ k → Passed m w i (before_left p) (marking a.seen k)
  unfolding Passed
  taken_case i p a k x e =
      ⊎_elim (λ y. absurd (omega (arith, ap length (ap (λ (b : Marking). b.waiting) (sym y.1) ∙ e))))
      (λ y.
      record {
        flooding = y.0;
        older = k;
        flooded = y.1;
        newest = ap (λ (b : Marking). b.waiting) (sym y.2) ∙ e;
        is = ap (λ (b : Marking). marking b.seen k) y.2;
      }) x

  down_case : (i p : ℕ) (a b : Marking) → Passed m w i (before_down p) a → b ≡ visit_down m w p a → Passed m w i between b
  unfolding Passed spread
  down_case i p a b x e =
      let n = x.flooded in
      inr (_, after n, e ∙ ap (visit_down m w p) x.is ∙ sym (take_newest m w n.times x.flooding p x.older x.newest))

  passed : {i : ℕ} {d : Phase} {a : Marking} → Moment m w i d a → Passed m w i d a
  unfolding Passed turns unmarked
  passed start = inl (omega arith, refl)
  passed (pass {i} {a} o e l n) = pass_case i a (passed o) e l n
  passed (begin {i} {a} o e s) = begin_case i a (passed o) e s
  passed (taken {i} {p} {a} {k} o e) = taken_case i p a k (passed o) e
  passed (left {i} {p} {a} {b} o v) = visited_more (visit_left m w p) (passed o) (visit_left_lem m w p a b g.wide v)
  passed (right {i} {p} {a} {b} o v) = visited_more (visit_right m w p) (passed o) (visit_right_lem m w p a b v)
  passed (up {i} {p} {a} {b} o v) = visited_more (visit_up m w p) (passed o) (visit_up_lem m w p a b v)
  passed (down {i} {p} {a} {b} o v) = down_case i p a b (passed o) (visit_down_lem m w p a b v)

  -- ---- no more wait than are counted
  flood_bound : {i : ℕ} {f : Flooding} → InFlood m w i f → f.waited ≤ waited_of m w
  unfolding scan_all
  flood_bound n =
      let j = n.first in
      let e = ap (λ (c : Scanned). c.waited) (scan_next m w j n.starts) in
      omega (
        arith,
        ap (λ (f : Flooding). f.waited) n.is,
        flood_most j n.times n.starts,
        e,
        turns_stay (scan m w) (unmarked m) (λ c. (scan_to m w (suc j)).waited ≤ c.waited) (λ k c p. omega (arith, p, scan_waited m w k c)) (suc j) (length m)
            (dark_inside m j n.starts.0) (omega arith),
      )

  flood_holds : {i : ℕ} {f : Flooding} → InFlood m w i f → length f.waiting ≤ waited_of m w
  flood_holds {f = f} n =
      let e : length f.waiting ≤ f.waited =
      subst (λ x. length x.waiting ≤ x.waited) (sym n.is)
      (turns_keep (flood_step m w) _ (λ x. length x.waiting ≤ x.waited) (begun_enough w n.first _) (flood_step_enough m w) n.times) in
      omega (arith, flood_bound n)

  around_holds : {i p : ℕ} {v : Marking → Marking} {a : Marking} (x : Around m w i p v a)
      → ((b : Marking) → length (v b).waiting ≤ length (spread m w p b).waiting) → length a.waiting ≤ waited_of m w
  around_holds {p = p} x l =
      omega (
        arith,
        ap (λ (b : Marking). length b.waiting) x.is,
        l (marking x.flooding.seen x.older),
        ap (λ (b : Marking). length b.waiting) (take_newest m w x.flooded.times x.flooding p x.older x.newest),
        flood_holds (after x.flooded),
      )

  -- the visits of a turn, one after another
  module _ (p : ℕ) (b : Marking) where
    left_grows : length b.waiting ≤ length (visit_left m w p b).waiting
    left_grows = visit_grows (left_has m w p b g.wide)

    right_grows : length (visit_left m w p b).waiting ≤ length (visit_right m w p (visit_left m w p b)).waiting
    right_grows = visit_grows (right_has m w p _)

    up_grows : length (visit_right m w p (visit_left m w p b)).waiting ≤ length (visit_up m w p (visit_right m w p (visit_left m w p b))).waiting
    up_grows = visit_grows (up_has m w p _)

    down_grows : length (visit_up m w p (visit_right m w p (visit_left m w p b))).waiting ≤ length (spread m w p b).waiting
    unfolding spread
    down_grows = visit_grows (down_has m w p _)

  passed_holds : (i : ℕ) (d : Phase) (a : Marking) → Passed m w i d a → length a.waiting ≤ waited_of m w
  unfolding Passed spread
  passed_holds i between a x =
      ⊎_elim (λ y. omega (arith, ap (λ (b : Marking). length b.waiting) y.1))
      (λ y. omega (arith, ap (λ (b : Marking). length b.waiting) y.2, flood_holds y.1)) x
  passed_holds i (before_left p) a x = around_holds x (λ b. omega (arith, left_grows p b, right_grows p b, up_grows p b, down_grows p b))
  passed_holds i (before_right p) a x = around_holds x (λ b. omega (arith, right_grows p b, up_grows p b, down_grows p b))
  passed_holds i (before_up p) a x = around_holds x (λ b. omega (arith, up_grows p b, down_grows p b))
  passed_holds i (before_down p) a x = around_holds x (λ b. down_grows p b)

  waited_reached : Holds m w (waited_of m w)
  unfolding scan_all
  waited_reached = (scan_moment g (length m) (omega arith)).1

  -- the number that labelling reports is the most that the stack ever holds
  pub waited_most : MostHeld m w (waited_of m w)
  waited_most = record { reached = waited_reached; no_more = λ k x. omega (arith, passed_holds x.0 x.1 x.2 (passed x.3), x.4) }
