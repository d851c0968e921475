-- Lent slices of numbers: what is handed in, and where results go. Assumes nothing.
use Rattle.std.specs.Prelude.{◌≡◌, Bool, true, false, cond, ◌&&◌, List, ◌++◌, ℕ, zero, suc, leb, ltb, length, drop, Result}
use Rattle.frame.specs.Refusals.{Check, number_of, lowest_of}
use Rattle.frame.specs.declared.refusals.Refusal.{Refusal}

-- [2.3] 3: a work area is too short; so is a slice of numbers, handed in or for results, with fewer than n
abbrev pub short : {A : Type 0} → List A → ℕ → Bool
short l n = ltb (length l) n

-- the numbers v over the start of l, whose rest stays
unfoldable pub written : {A : Type 0} → List A → List A → List A
written v l = v ++ drop (length v) l

-- a result slice l after a call with the number n: the numbers v where it is accepted, and as it was where it is
-- refused
abbrev pub answered : {A : Type 0} → ℕ → List A → List A → List A
answered zero v l = written v l
answered (suc n) v l = l

-- a call that answers the numbers v in the slice l: its number r is the lowest that applies, and l becomes l'
pub record Answer {A : Type 0} (tests : List Check) (v l : List A) (r : ℕ) (l' : List A) : Type 0 where
  pub number : r ≡ lowest_of tests
  pub result : l' ≡ answered r v l

-- a call with the number r over a public function that answers a value or a refusal: r is the number of an answer of
-- which all holds that the function promises (Promised)
pub record Answering {A : Type 0} (r : ℕ) (Promised : Result A Refusal → Type 0) : Type 0 where
  pub answer : Result A Refusal
  pub number : r ≡ number_of answer
  pub promised : Promised answer

-- a call with the number r over a public function with work areas: where a slice of numbers is too short (s), the
-- number is the lowest of those before 3 and of 3, and all is as it was (Same); else it is as the public function
-- promises (Done)
pub record Over (s : Bool) (before : List Check) (r : ℕ) (Same Done : Type 0) : Type 0 where
  pub number : s ≡ true → r ≡ lowest_of before
  pub same : s ≡ true → Same
  pub done : s ≡ false → Done

-- the slice for counts after a call with the number n: a refusal from 7 up tells them too
unfoldable pub told : {A : Type 0} → ℕ → List A → List A → List A
told n v l = cond (leb 1 n && leb n 6) l (written v l)
