-- The answers one after another: the walk's tallies are their numbers, and each is read back where it stands. Assumes nothing.
use Prim.Native.Nat.{ℕ, ◌+◌, ◌*◌, ◌^◌, ◌≤◌, ◌<◌}
use native.Mathlib.Omega.{arith}
use mathlib.Core.Path.{◌≡◌, refl, sym, ap, subst, ◌∙◌}
use mathlib.Core.Bool.{true}
use mathlib.Core.List.{List, ◌++◌}
use lib.ListN.{length, get_or, take, drop, length-drop}
use lib.Seq.{get_or-take, get_or-drop, length-take-le, drop-append-le, take-append-le}
use Rattle.base.specs.Loops.{joined}
use Rattle.base.proofs.Every.{every_one}
use Rattle.base.proofs.Joined.{length_joined, joined_part, joined_cong}
use Rattle.windows.specs.Rectangles.{Valid, Shares, distance, rectangle_at, box_at, every_rectangle, every_box}
use Rattle.windows.specs.Windows.{WindowOf, window_of, patch_of, window_numbers, window_at}
use Rattle.windows.specs.Steps.{no_tally, tallies, window_in}
use Rattle.windows.specs.Promises.{answer_numbers}
use Rattle.windows.specs.declared.Window.{Window}
use Rattle.windows.proofs.Touching.{valid_is}
use Rattle.windows.proofs.Tallies.{tallies_long, tallies_at}
use Rattle.windows.proofs.Windows.{window_same, window_is, tally_answers, first_before, nearest_before, named}

module _ (patches : List ℕ) (n : ℕ) (windows : List ℕ) (k : ℕ) where
  abbrev pub answer : ℕ → Window
  answer i = window_of (box_at patches) n (rectangle_at windows i)

  -- answer i is where it was put, whatever stands behind
  pub answers_part : (l : List ℕ) (i : ℕ) → i < k → take 3 (drop (3 * i) (answer_numbers patches n windows k ++ l)) ≡ window_numbers (answer i)
  unfolding answer_numbers window_numbers
  answers_part l i h =
      let f : ℕ → List ℕ = λ i. window_numbers (answer i) in
      let long : length (joined f k) ≡ 3 * k = length_joined f 3 (λ i. refl) k in
      ap (take 3) (drop-append-le (3 * i) (joined f k) l (omega arith))
      ∙ take-append-le 3 (drop (3 * i) (joined f k)) l (omega (arith, length-drop (3 * i) (joined f k)))
      ∙ joined_part f 3 (λ i. refl) k i h

  -- the tallies after the walk hold the answers
  pub tallies_answers : (answers : List ℕ) → k ≤ 64
      → let x = take k (tallies patches n windows k) in
      joined (λ i. window_numbers (window_in (get_or x i no_tally))) (length x) ++ drop (3 * length x) answers
      ≡ answer_numbers patches n windows k ++ drop (3 * k) answers
  unfolding answer_numbers
  tallies_answers answers few =
      let x = take k (tallies patches n windows k) in
      let long : length x ≡ k = length-take-le k (tallies patches n windows k) (omega (arith, tallies_long patches windows k few n)) in
      let f : ℕ → List ℕ = λ i. window_numbers (window_in (get_or x i no_tally)) in
      ap (λ m. joined f m ++ drop (3 * m) answers) long
      ∙ ap (λ l. l ++ drop (3 * k) answers) (joined_cong f (λ i. window_numbers (answer i)) k
      (λ i h. ap (λ t. window_numbers (window_in t)) (tallies_at patches windows k few n i h)
      ∙ ap window_numbers (tally_answers (box_at patches) (rectangle_at windows i) n)))

  module _ (fits : n < 2 ^ 64) (r : every_rectangle windows k ≡ true) (b : every_box patches n ≡ true) where
    valid_rectangle : (i : ℕ) → i < k → Valid (rectangle_at windows i)
    valid_rectangle i h = valid_is _ (every_one _ k r i h)

    valid_box : (j : ℕ) → j < n → Valid (box_at patches j)
    valid_box j h = valid_is _ (every_one _ n b j h)

    answer_is : (i : ℕ) → i < k → WindowOf (box_at patches) n (rectangle_at windows i) (answer i)
    answer_is i h = window_is (box_at patches) (rectangle_at windows i) (valid_rectangle i h) n valid_box

    -- each answer is read back from the numbers
    pub answers_at : (l : List ℕ) (i : ℕ) → i < k → window_at (answer_numbers patches n windows k ++ l) i ≡ answer i
    unfolding window_at window_numbers
    answers_at l i h =
        let a = answer i in
        let x = answer_numbers patches n windows k ++ l in
        let w = answer_is i h in
        let part = answers_part l i h in
        let z : 3 * i ≡ 3 * i + 0 = omega arith in
        let at : (c : ℕ) → c < 3 → get_or x (3 * i + c) 0 ≡ get_or (window_numbers a) c 0 =
        λ c o. sym (get_or-drop (3 * i) x c 0) ∙ sym (get_or-take 3 (drop (3 * i) x) c 0 o) ∙ ap (λ z. get_or z c 0) part in
        window_same
        (ap (λ p. get_or x p 0) z ∙ at 0 (omega arith))
        (ap patch_of (at 1 (omega arith)) ∙ named n a.first fits (first_before (λ j. Shares (rectangle_at windows i) (box_at patches j)) n a.first w.first_is))
        (ap patch_of (at 2 (omega arith)) ∙ named n a.nearest fits (nearest_before (λ j. distance (rectangle_at windows i) (box_at patches j)) n a.nearest w.nearest_is))

    pub answers_mean : (answers l : List ℕ) → answers ≡ answer_numbers patches n windows k ++ l → (i : ℕ) → i < k
        → WindowOf (box_at patches) n (rectangle_at windows i) (window_at answers i)
    answers_mean answers l e i h =
        subst (WindowOf (box_at patches) n (rectangle_at windows i)) (sym (ap (λ z. window_at z i) e ∙ answers_at l i h)) (answer_is i h)
