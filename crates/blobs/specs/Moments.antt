-- The Rust's search for patches (geometry.rs, `label_blobs`) in single steps, and the most that its stack ever holds
-- (requirements, 25). Stack has the same search as functions of the mask; that `waited_of` is this number is proved
-- (proofs/Moments). Assumes nothing.
use Rattle.std.specs.Prelude.{ℕ, suc, ◌+◌, ◌%◌, ◌≤◌, ◌<◌, ◌≡◌, List, [], ◌∷◌, length, get_or, set, replicate}
use Rattle.blobs.specs.Patches.{Dark}
use Rattle.blobs.specs.Stack.{Marking, marking}

-- [25.3] "dark and not yet marked"
abbrev pub DarkUnmarked : List ℕ → Marking → ℕ → Type 0
DarkUnmarked m a q = Dark m q × (get_or a.seen q 0 ≡ 0)

-- [25.3] "marked as they go on": the pixel q is marked, and is the newest of those waiting
abbrev pub put : ℕ → Marking → Marking
put q a = marking (set a.seen q 1) (q ∷ a.waiting)

-- [25.3] "left, right, up, down": q is this neighbour of p in rows of w. They are the cases of `Touch`
abbrev pub Left : ℕ → ℕ → ℕ → Type 0
Left w p q = (p ≡ q + 1) × (q % w + 1 < w)

abbrev pub Right : ℕ → ℕ → ℕ → Type 0
Right w p q = (q ≡ p + 1) × (p % w + 1 < w)

abbrev pub Upper : ℕ → ℕ → ℕ → Type 0
Upper w p q = p ≡ q + w

abbrev pub Lower : ℕ → ℕ → ℕ → Type 0
Lower w p q = q ≡ p + w

-- [25.3] a visit to the neighbour for which N holds: it goes on "when dark and not yet marked"
pub data Visit (m : List ℕ) (N : ℕ → Type 0) (a : Marking) : Marking → Type 0 where
  goes_on : (q : ℕ) → N q → DarkUnmarked m a q → Visit m N a (put q a)
  stays : ((q : ℕ) → N q → DarkUnmarked m a q → ⊥) → Visit m N a a

-- no pixel is taken, or the pixel p is, and one of its neighbours is visited next
pub data Phase : Type 0 where
  between : Phase
  before_left : ℕ → Phase
  before_right : ℕ → Phase
  before_up : ℕ → Phase
  before_down : ℕ → Phase

-- [25.1] a moment of "the Rust stack", in the mask m, whose rows are w long: the scan comes to the pixel i next, and a
-- has the marks and the pixels waiting, newest first
pub data Moment (m : List ℕ) (w : ℕ) : ℕ → Phase → Marking → Type 0 where
  -- no pixel is marked, and none waits
  start : Moment m w 0 between (marking (replicate (length m) 0) [])
  -- none waits, and the next pixel starts no patch
  pass : {i : ℕ} {a : Marking} → Moment m w i between a → a.waiting ≡ [] → i < length m → (DarkUnmarked m a i → ⊥)
      → Moment m w (suc i) between a
  -- [25.4] "The first pixel counts as one waiting"
  begin : {i : ℕ} {a : Marking} → Moment m w i between a → a.waiting ≡ [] → DarkUnmarked m a i
      → Moment m w (suc i) between (put i a)
  -- [25.2] "the newest pixel is taken first"
  taken : {i p : ℕ} {a : Marking} {k : List ℕ} → Moment m w i between a → a.waiting ≡ p ∷ k
      → Moment m w i (before_left p) (marking a.seen k)
  -- [25.3] "neighbours go on left, right, up, down"
  left : {i p : ℕ} {a b : Marking} → Moment m w i (before_left p) a → Visit m (Left w p) a b
      → Moment m w i (before_right p) b
  right : {i p : ℕ} {a b : Marking} → Moment m w i (before_right p) a → Visit m (Right w p) a b
      → Moment m w i (before_up p) b
  up : {i p : ℕ} {a b : Marking} → Moment m w i (before_up p) a → Visit m (Upper w p) a b
      → Moment m w i (before_down p) b
  down : {i p : ℕ} {a b : Marking} → Moment m w i (before_down p) a → Visit m (Lower w p) a b → Moment m w i between b

-- [25.6] "ever holds": at some moment k pixels wait
abbrev pub Holds : List ℕ → ℕ → ℕ → Type 0
Holds m w k = (i : ℕ) × (d : Phase) × (a : Marking) × Moment m w i d a × (length a.waiting ≡ k)

-- [25.6] n is "the most that this stack ever holds, over all patches"
pub record MostHeld (m : List ℕ) (w n : ℕ) : Type 0 where
  pub reached : Holds m w n
  pub no_more : (k : ℕ) → Holds m w k → k ≤ n

-- [25.1] "exactly": a mask has one such number, so no two builds that keep the promise report different ones
abbrev pub OneMost : Type 0
OneMost = (m : List ℕ) (w n o : ℕ) → MostHeld m w n → MostHeld m w o → n ≡ o
