-- The answer for a rectangle over a patch list (requirements, 27), by meaning and by equation, and its three numbers.
-- Assumes nothing.
use Rattle.std.specs.Prelude.{ℕ, ◌+◌, ◌*◌, ◌^◌, ◌-◌, ◌≤◌, ◌<◌, ◌≡◌, cond, List, [], ◌∷◌, Option, Some, None, ◌⊎◌, eqb, ltb, get_or}
use Rattle.base.specs.Loops.{turns}
use Rattle.blobs.specs.Patches.{total, one}
use Rattle.windows.specs.Rectangles.{Shares, touches, distance}
use Rattle.windows.specs.declared.Rectangle.{Rectangle}
use Rattle.windows.specs.declared.Window.{Window}

-- [27.1] "up to 64 rectangles are handed in together"
abbrev pub most_windows : ℕ
most_windows = 64

-- ---- by meaning, over the first n patches of a list

-- [27.2] "how many": m of the numbers below n have P; each that has it counts one, the others nothing
pub record HowMany (P : ℕ → Type 0) (n m : ℕ) : Type 0 where
  pub counts : ℕ → ℕ
  pub counted : (j : ℕ) → j < n → ((counts j ≡ 1) × P j) ⊎ ((counts j ≡ 0) × (P j → ⊥))
  pub many : m ≡ total one counts n

-- [27.3] "the first .. in list order": the first below n that has P, or nothing where none has
abbrev pub FirstWith : (ℕ → Type 0) → ℕ → Option ℕ → Type 0
FirstWith P n None = (j : ℕ) → j < n → P j → ⊥
FirstWith P n (Some j) = (j < n) × P j × ((i : ℕ) → i < j → P i → ⊥)

-- [27.4] "nearest .., the earlier of equals": the one below n where d is least; nothing where there is none at all
abbrev pub LeastOf : (ℕ → ℕ) → ℕ → Option ℕ → Type 0
LeastOf d n None = n ≡ 0
LeastOf d n (Some j) = (j < n) × ((i : ℕ) → i < n → d j ≤ d i) × ((i : ℕ) → i < j → d j < d i)

-- a is the answer for the rectangle r over n patches, whose boxes are t 0, t 1, ..
pub record WindowOf (t : ℕ → Rectangle) (n : ℕ) (r : Rectangle) (a : Window) : Type 0 where
  -- [27.2] "how many patch boxes share a pixel with it"
  pub count_is : HowMany (λ j. Shares r (t j)) n a.count
  -- [27.3] "the first such patch in list order"
  pub first_is : FirstWith (λ j. Shares r (t j)) n a.first
  -- [27.4] "the patch whose box centre is nearest its centre, .. the earlier of equals"
  pub nearest_is : LeastOf (λ j. distance r (t j)) n a.nearest

-- ---- by equation

-- the first that touches r, once patch j is looked at after those before it
unfoldable pub first_met : (ℕ → Rectangle) → Rectangle → ℕ → Option ℕ → Option ℕ
first_met t r j None = cond (touches r (t j)) (Some j) None
first_met t r j (Some i) = Some i

-- the nearest, once patch j is looked at after those before it: it has to be nearer
unfoldable pub nearest_met : (ℕ → Rectangle) → Rectangle → ℕ → Option ℕ → Option ℕ
nearest_met t r j None = Some j
nearest_met t r j (Some i) = cond (ltb (distance r (t j)) (distance r (t i))) (Some j) (Some i)

-- the answer over the patches before j, once patch j is looked at too
abbrev pub window_step : (ℕ → Rectangle) → Rectangle → ℕ → Window → Window
window_step t r j a =
    record {
      count = a.count + cond (touches r (t j)) 1 0;
      first = first_met t r j a.first;
      nearest = nearest_met t r j a.nearest;
    }

-- [27.8] "an empty list gives counts of 0 and no patch"
abbrev pub no_window : Window
no_window = record { count = 0; first = None; nearest = None }

-- the answer for r over the patches 0, 1, .. n - 1
unfoldable pub window_of : (ℕ → Rectangle) → ℕ → Rectangle → Window
window_of t n r = turns n (window_step t r) no_window

-- ---- in numbers

-- [27.8] "no patch": the greatest number of 64 bits, which no place in a list reaches
abbrev pub no_patch : ℕ
no_patch = 2 ^ 64 - 1

-- the number of each case
unfoldable pub patch_number : Option ℕ → ℕ
patch_number (Some j) = j
patch_number None = no_patch

-- .. and the case of a number
unfoldable pub patch_of : ℕ → Option ℕ
patch_of v = cond (eqb v no_patch) None (Some v)

-- [27.2, 27.3, 27.4] an answer is three numbers: how many, the first, the nearest
abbrev pub window_length : ℕ
window_length = 3

unfoldable pub window_numbers : Window → List ℕ
window_numbers a = a.count ∷ patch_number a.first ∷ patch_number a.nearest ∷ []

-- answer i of a list
unfoldable pub window_at : List ℕ → ℕ → Window
window_at l i =
    let p = window_length * i in
    record { count = get_or l p 0; first = patch_of (get_or l (p + 1) 0); nearest = patch_of (get_or l (p + 2) 0) }
