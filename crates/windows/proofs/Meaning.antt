-- What the definitions come to: the theorems of specs/Meaning. Assumes nothing.
use Prim.Native.Nat.{ℕ, ◌+◌, ◌*◌, ◌/◌, ◌≤◌, ◌<◌}
use native.Mathlib.Omega.{arith}
use mathlib.Core.Path.{◌≡◌, refl, sym, ap, subst, ◌∙◌}
use mathlib.Core.Bool.{true, false, true≢false}
use mathlib.Core.Logic.{◌⊎◌, inl, inr}
use mathlib.Core.List.{List}
use lib.ListN.{length, get_or, take, drop, length-drop}
use lib.Seq.{get_or-take, get_or-drop, length-take-le}
use Rattle.base.proofs.Arith.{le_or_lt}
use Rattle.base.proofs.Every.{every_one, one_every, every_fails}
use Rattle.base.proofs.Tests.{either}
use Rattle.frame.specs.Refusals.{Lowest, lowest_of}
use Rattle.frame.specs.Refusals.Lowest.{accepted, refused}
use Rattle.windows.specs.Rectangles.{rectangle_at, box_at, valid, every_rectangle, every_box}
use Rattle.windows.specs.Windows.{WindowOf, window_of, no_window, window_numbers, window_at}
use Rattle.windows.specs.Steps.{Fitting}
use Rattle.windows.specs.Promises.{window_tests}
use Rattle.windows.specs.Meaning.{TouchesIs, WindowIs, OneWindow, Alone, EmptyList, Unanswered, LowestGiven}
use Rattle.windows.specs.Meaning.Unanswered.{short_answers, short_windows, short_patches, too_many, bad_rectangle, bad_box}
use Rattle.windows.proofs.Touching.{valid_is, is_valid, touches_shares, shares_touches}
use Rattle.windows.proofs.Windows.{window_is, window_one, window_none}
use Rattle.windows.proofs.Numbers.{answers_part}
use Rattle.windows.proofs.Refusing.{short_answers_lem, short_windows_lem, short_patches_lem, too_many_lem, bad_rectangle_lem, fitting, bad_box_lem, none_bad}

pub touches_is : TouchesIs
touches_is r b s t = (touches_shares r b s t, shares_touches r b)

pub window_of_lem : WindowIs
window_of_lem t n r s h = window_is t r s n h

pub one_window : OneWindow
one_window = window_one

-- ---- refusals
module _ (patches : List ℕ) (n : ℕ) (windows : List ℕ) (k : ℕ) (answers : List ℕ) where
  abbrev number : ℕ
  number = lowest_of (window_tests patches n windows k answers)

  -- the tests, worked off one after another: which number is given, and that no lower one is
  data Outcome : Type 0 where
    three : Unanswered patches n windows k answers 3 → 3 ≡ number → Outcome
    seventeen : Unanswered patches n windows k answers 17 → 17 ≡ number → 3 * k ≤ length answers → 4 * k ≤ length windows → 8 * n ≤ length patches → Outcome
    none : Fitting patches n windows k (length answers) → every_box patches n ≡ true → Outcome

  by_boxes : Fitting patches n windows k (length answers) → (every_box patches n ≡ true) ⊎ (every_box patches n ≡ false) → Outcome
  by_boxes f (inl e) = none f e
  by_boxes f (inr e) =
      let b = every_fails _ n e in
      seventeen (bad_box b.0 b.1 (λ s. true≢false (sym (is_valid _ s) ∙ b.2))) (bad_box_lem patches n windows k answers f e) f.held f.handed f.listed

  module _ (h : 3 * k ≤ length answers) (i : 4 * k ≤ length windows) (j : 8 * n ≤ length patches) where
    p : k ≤ length answers / 3
    p = omega arith

    q : k ≤ length windows / 4
    q = omega arith

    o : n ≤ length patches / 8
    o = omega arith

    by_rectangles : k ≤ 64 → (every_rectangle windows k ≡ true) ⊎ (every_rectangle windows k ≡ false) → Outcome
    by_rectangles m (inl e) = by_boxes (fitting patches n windows k answers p q o m e) (either (every_box patches n))
    by_rectangles m (inr e) =
        let b = every_fails _ k e in
        seventeen (bad_rectangle b.0 b.1 (λ s. true≢false (sym (is_valid _ s) ∙ b.2))) (bad_rectangle_lem patches n windows k answers p q o e) h i j

    by_count : (k ≤ 64) ⊎ (64 < k) → Outcome
    by_count (inl m) = by_rectangles m (either (every_rectangle windows k))
    by_count (inr m) = seventeen (too_many m) (too_many_lem patches n windows k answers p q o m) h i j

  by_lengths : (3 * k ≤ length answers) ⊎ (length answers < 3 * k) → (4 * k ≤ length windows) ⊎ (length windows < 4 * k)
      → (8 * n ≤ length patches) ⊎ (length patches < 8 * n) → Outcome
  by_lengths (inr h) i j = three (short_answers h) (short_answers_lem patches n windows k answers (omega arith))
  by_lengths (inl h) (inr i) j = three (short_windows i) (short_windows_lem patches n windows k answers (omega arith))
  by_lengths (inl h) (inl i) (inr j) = three (short_patches j) (short_patches_lem patches n windows k answers (omega arith))
  by_lengths (inl h) (inl i) (inl j) = by_count h i j (le_or_lt k 64)

  outcome : Outcome
  outcome = by_lengths (le_or_lt (3 * k) (length answers)) (le_or_lt (4 * k) (length windows)) (le_or_lt (8 * n) (length patches))

  -- a condition's number is 3, and a slice is short, or 17
  low : (m : ℕ) → Unanswered patches n windows k answers m → 3 * k ≤ length answers → 4 * k ≤ length windows → 8 * n ≤ length patches → m ≡ 17
  low m (short_answers c) h i j = absurd (omega arith)
  low m (short_windows c) h i j = absurd (omega arith)
  low m (short_patches c) h i j = absurd (omega arith)
  low m (too_many c) h i j = refl
  low m (bad_rectangle l c d) h i j = refl
  low m (bad_box l c d) h i j = refl

  least : (m : ℕ) → Unanswered patches n windows k answers m → 3 ≤ m
  least m (short_answers c) = omega arith
  least m (short_windows c) = omega arith
  least m (short_patches c) = omega arith
  least m (too_many c) = omega arith
  least m (bad_rectangle l c d) = omega arith
  least m (bad_box l c d) = omega arith

  clear : Fitting patches n windows k (length answers) → every_box patches n ≡ true → (m : ℕ) → Unanswered patches n windows k answers m → ⊥
  clear f e m (short_answers c) = omega (arith, f.held)
  clear f e m (short_windows c) = omega (arith, f.handed)
  clear f e m (short_patches c) = omega (arith, f.listed)
  clear f e m (too_many c) = omega (arith, f.few)
  clear f e m (bad_rectangle i l c) = c (valid_is _ (every_one _ k f.rectangles i l))
  clear f e m (bad_box j l c) = c (valid_is _ (every_one _ n e j l))

  given : Outcome → Lowest (Unanswered patches n windows k answers) number
  given (three c e) = refused (subst (Unanswered patches n windows k answers) e c) (λ m l d. omega (arith, least m d))
  given (seventeen c e h i j) = refused (subst (Unanswered patches n windows k answers) e c) (λ m l d. omega (arith, low m d h i j))
  given (none f e) = accepted (none_bad patches n windows k answers f e) (clear f e)

  -- what an accepted call was handed
  pub record Held : Type 0 where
    pub fit : Fitting patches n windows k (length answers)
    pub boxes : every_box patches n ≡ true

  passed : number ≡ 0 → Outcome → Held
  passed z (three c e) = absurd (omega arith)
  passed z (seventeen c e h i j) = absurd (omega arith)
  passed z (none f e) = record { fit = f; boxes = e }

  held : number ≡ 0 → Held
  held z = passed z outcome

pub lowest_given : LowestGiven
lowest_given patches n windows k answers = given patches n windows k answers (outcome patches n windows k answers)

-- ---- alone

-- rectangle i by itself
module _ (windows : List ℕ) (i : ℕ) (h : 4 * i + 4 ≤ length windows) where
  abbrev own : List ℕ
  own = take 4 (drop (4 * i) windows)

  own_long : length own ≡ 4
  own_long = length-take-le 4 (drop (4 * i) windows) (omega (arith, length-drop (4 * i) windows))

  own_at : (c : ℕ) → c < 4 → get_or own c 0 ≡ get_or windows (4 * i + c) 0
  own_at c l = get_or-take 4 (drop (4 * i) windows) c 0 l ∙ get_or-drop (4 * i) windows c 0

  own_is : rectangle_at own 0 ≡ rectangle_at windows i
  unfolding rectangle_at
  own_is =
      let z : 4 * i + 0 ≡ 4 * i = omega arith in
      let e0 = own_at 0 (omega arith) ∙ ap (λ p. get_or windows p 0) z in
      let e1 = own_at 1 (omega arith) in
      let e2 = own_at 2 (omega arith) in
      let e3 = own_at 3 (omega arith) in
      λ z. record { x0 = e0 z; y0 = e1 z; x1 = e2 z; y1 = e3 z }

pub alone : Alone
alone patches n windows k answers answers' v w a i l mine mine' u m x =
    let z = sym w.given ∙ a in
    let g = held patches n windows k answers z in
    let f = g.fit in
    let r : 4 * i + 4 ≤ length windows = omega (arith, f.handed) in
    let fair : every_rectangle (own windows i r) 1 ≡ true =
    one_every _ 1 (λ j b. let e : j ≡ 0 = omega arith in
    ap (λ t. valid (rectangle_at (own windows i r) t)) e ∙ ap valid (own_is windows i r) ∙ every_one _ k f.rectangles i l) in
    let fit : Fitting patches n (own windows i r) 1 (length mine) =
    record { held = omega arith; handed = omega (arith, own_long windows i r); listed = f.listed; few = omega arith; rectangles = fair } in
    let y = none_bad patches n (own windows i r) 1 mine fit g.boxes in (
      x.given ∙ y,
      ap (take 3) (x.accepted y)
          ∙ answers_part patches n (own windows i r) 1 (drop 3 mine) 0 (omega arith)
          ∙ ap (λ q. window_numbers (window_of (box_at patches) n q)) (own_is windows i r)
          ∙ sym (answers_part patches n windows k (drop (3 * k) answers) i l)
          ∙ ap (λ q. take 3 (drop (3 * i) q)) (sym (w.accepted z)),
    )

-- ---- an empty list
pub empty_list : EmptyList
empty_list patches windows k answers answers' v w a i l =
    let z = sym w.given ∙ a in
    let f = (held patches 0 windows k answers z).fit in
    window_one (box_at patches) 0 (rectangle_at windows i) (window_at answers' i) no_window (w.means z i l)
    (subst (WindowOf (box_at patches) 0 (rectangle_at windows i)) (window_none (box_at patches) (rectangle_at windows i))
    (window_is (box_at patches) (rectangle_at windows i) (valid_is _ (every_one _ k f.rectangles i l)) 0 (λ j b. absurd (omega arith))))
