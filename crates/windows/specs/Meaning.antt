-- What the definitions come to: theorems that a reader can cite (requirements, 27). proofs/Meaning shows them. Assumes
-- nothing.
use Rattle.std.specs.Prelude.{ℕ, ◌*◌, ◌≤◌, ◌<◌, ◌≡◌, true, ◌↔◌, List, length, take, drop}
use Rattle.frame.specs.Refusals.{Lowest, lowest_of}
use Rattle.blobs.specs.Patches.{record_length}
use Rattle.windows.specs.Rectangles.{rectangle_length, rectangle_at, box_at, Valid, Shares, touches}
use Rattle.windows.specs.Windows.{most_windows, WindowOf, window_of, no_window, window_length, window_at}
use Rattle.windows.specs.Promises.{window_tests, Windowing}
use Rattle.windows.specs.declared.Rectangle.{Rectangle}
use Rattle.windows.specs.declared.Window.{Window}

-- [27.2] the test is whether there is a common pixel
abbrev pub TouchesIs : Type 0
TouchesIs = (r b : Rectangle) → Valid r → Valid b → (touches r b ≡ true) ↔ Shares r b

-- [27.2, 27.3, 27.4] the equation gives the answer by meaning
abbrev pub WindowIs : Type 0
WindowIs =
    (t : ℕ → Rectangle) (n : ℕ) (r : Rectangle) → Valid r → ((j : ℕ) → j < n → Valid (t j))
    → WindowOf t n r (window_of t n r)

-- [27.2, 27.3, 27.4] .. and there is one only: no two builds that keep the promise differ
abbrev pub OneWindow : Type 0
OneWindow = (t : ℕ → Rectangle) (n : ℕ) (r : Rectangle) (a b : Window) → WindowOf t n r a → WindowOf t n r b → a ≡ b

-- [27.6] "each gets the answer it would get alone": a call with rectangle i by itself, over the same list, is accepted
-- where its area holds an answer, and gives the numbers that stand at i in the answers of an accepted call
abbrev pub Alone : Type 0
Alone =
    (patches : List ℕ) (n : ℕ) (windows : List ℕ) (k : ℕ) (answers answers' : List ℕ) (v : ℕ)
    → Windowing patches n windows k answers answers' v → v ≡ 0
    → (i : ℕ) → i < k → (own own' : List ℕ) (u : ℕ) → window_length ≤ length own
    → Windowing patches n (take rectangle_length (drop (rectangle_length * i) windows)) 1 own own' u
    → (u ≡ 0) × (take window_length own' ≡ take window_length (drop (window_length * i) answers'))

-- [27.8] "an empty list gives counts of 0 and no patch"
abbrev pub EmptyList : Type 0
EmptyList =
    (patches windows : List ℕ) (k : ℕ) (answers answers' : List ℕ) (v : ℕ)
    → Windowing patches 0 windows k answers answers' v → v ≡ 0
    → (i : ℕ) → i < k → window_at answers' i ≡ no_window

-- ---- refusals

-- the condition of each number
pub data Unanswered (patches : List ℕ) (n : ℕ) (windows : List ℕ) (k : ℕ) (answers : List ℕ) : ℕ → Type 0 where
  -- [27.11] "a short answer area gives 3 first"
  short_answers : length answers < window_length * k → Unanswered patches n windows k answers 3
  -- .. and so do rectangles or records that are fewer than their count
  short_windows : length windows < rectangle_length * k → Unanswered patches n windows k answers 3
  short_patches : length patches < record_length * n → Unanswered patches n windows k answers 3
  -- [27.9] "for more than 64 rectangles"
  too_many : most_windows < k → Unanswered patches n windows k answers 17
  -- [27.10] "or for a rectangle or patch box with an end before its start or above 4,095"
  bad_rectangle : (i : ℕ) → i < k → (Valid (rectangle_at windows i) → ⊥) → Unanswered patches n windows k answers 17
  bad_box : (j : ℕ) → j < n → (Valid (box_at patches j) → ⊥) → Unanswered patches n windows k answers 17

-- [2.12] the number given is the lowest whose condition holds
abbrev pub LowestGiven : Type 0
LowestGiven =
    (patches : List ℕ) (n : ℕ) (windows : List ℕ) (k : ℕ) (answers : List ℕ)
    → Lowest (Unanswered patches n windows k answers) (lowest_of (window_tests patches n windows k answers))
