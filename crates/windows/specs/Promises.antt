-- What `patch_windows` does (requirements, 27). Assumes nothing.
use Rattle.std.specs.Prelude.{ℕ, ◌*◌, ◌≤◌, ◌<◌, ◌≡◌, not, ◌||◌, List, [], ◌∷◌, ◌++◌, ltb, length, drop}
use Rattle.base.specs.Loops.{joined}
use Rattle.frame.specs.Refusals.{Check, check, lowest_of}
use Rattle.frame.specs.declared.refusals.Refusal.TheVariants.{AreaShort, RectangleWrong}
use Rattle.blobs.specs.Patches.{record_length}
use Rattle.windows.specs.Rectangles.{rectangle_length, rectangle_at, box_at, every_rectangle, every_box}
use Rattle.windows.specs.Windows.{most_windows, WindowOf, window_of, window_length, window_numbers, window_at}

-- [27.11] 3: the answer area is short, or another slice shorter than its count; [27.9] 17: more than 64 rectangles;
-- [27.10] or a rectangle or patch box with an end before its start or above 4,095
unfoldable pub window_tests : List ℕ → ℕ → List ℕ → ℕ → List ℕ → List Check
window_tests patches n windows k answers =
    check AreaShort
    (ltb (length answers) (window_length * k) || (ltb (length windows) (rectangle_length * k)
    || ltb (length patches) (record_length * n)))
    ∷ check RectangleWrong (ltb most_windows k || (not (every_rectangle windows k) || not (every_box patches n)))
    ∷ []

-- the answers of k rectangles over n patches, one after another
unfoldable pub answer_numbers : List ℕ → ℕ → List ℕ → ℕ → List ℕ
answer_numbers patches n windows k =
    joined (λ i. window_numbers (window_of (box_at patches) n (rectangle_at windows i))) k

-- the answer area becomes answers'; number is the answer's
pub record Windowing (patches : List ℕ) (n : ℕ) (windows : List ℕ) (k : ℕ) (answers answers' : List ℕ)
    (number : ℕ) : Type 0 where
  -- [2.12, 27.11] the lowest number that applies is given: 3 before 17
  pub given : number ≡ lowest_of (window_tests patches n windows k answers)
  -- [27.2, 27.3, 27.4] by equation; [17.6] a longer area keeps its rest
  pub accepted : lowest_of (window_tests patches n windows k answers) ≡ 0
      → answers' ≡ answer_numbers patches n windows k ++ drop (window_length * k) answers
  -- [27.2, 27.3, 27.4] by meaning
  pub means : lowest_of (window_tests patches n windows k answers) ≡ 0
      → (i : ℕ) → i < k → WindowOf (box_at patches) n (rectangle_at windows i) (window_at answers' i)
  -- [27.12] "answers are untouched in both"
  pub refused : 1 ≤ lowest_of (window_tests patches n windows k answers) → answers' ≡ answers
