-- Loops, tables and planes, as functions on values. Assumes nothing.
use Rattle.std.specs.Prelude.{ℕ, zero, suc, ◌+◌, ◌-◌, ◌%◌, ◌/◌, Bool, true, ◌&&◌, List, [], ◌∷◌, ◌++◌, set}

-- a counted loop: f 0, then f 1, .. then f (n - 1), on a
unfoldable pub turns : {A : Type 0} → ℕ → (ℕ → A → A) → A → A
turns zero f a = a
turns (suc n) f a = f n (turns n f a)

-- `for i in lo..hi`
unfoldable pub between : {A : Type 0} → ℕ → ℕ → (ℕ → A → A) → A → A
between lo hi f a = turns (hi - lo) (λ k. f (lo + k)) a

-- p holds for 0, 1, .. n - 1
unfoldable pub every : ℕ → (ℕ → Bool) → Bool
every n p = turns n (λ i held. held && p i) true

-- the list f 0, f 1, .. f (n - 1)
unfoldable pub table : {A : Type 0} → (ℕ → A) → ℕ → List A
table f zero = []
table f (suc n) = f zero ∷ table (λ k. f (suc k)) n

-- the lists f 0, f 1, .. f (n - 1), one after another
unfoldable pub joined : {A : Type 0} → (ℕ → List A) → ℕ → List A
joined f zero = []
joined f (suc n) = joined f n ++ f n

-- a table written over the start of a list: entry k is f k for k below n, and the rest stays
abbrev pub fill_at : {A : Type 0} → (ℕ → A) → ℕ → List A → List A
fill_at f k b = set b k (f k)

unfoldable pub filled : {A : Type 0} → (ℕ → A) → ℕ → List A → List A
filled f n l = turns n (fill_at f) l

-- entry i of a plane of rows of w, by column and row
unfoldable pub by_row : {A : Type 0} → ℕ → (ℕ → ℕ → A) → ℕ → A
by_row w f i = f (i % w) (i / w)
