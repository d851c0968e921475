-- The public functions' promises, over the number that a call gives in place of the public function's answer. Assumes nothing.
use mathlib.Core.Path.{◌≡◌, sym, subst}
use mathlib.Core.List.{List}
use Prim.Native.Nat.{ℕ}
use Rattle.std.specs.Prelude.{Result}
use Rattle.frame.specs.Refusals.{number_of}
use Rattle.frame.specs.declared.refusals.Refusal.{Refusal}
use Rattle.windows.specs.Promises.{Windowing}
use Rattle.merge.specs.Promises.{Merging}
use Rattle.tablet.specs.Slices.{Answering}

-- a promise of an answer
pub answering : {A : Type 0} (Promised : Result A Refusal → Type 0) (a : Result A Refusal) (r : ℕ) → r ≡ number_of a → Promised a → Answering r Promised
answering Promised a r e p = record { answer = a; number = e; promised = p }

pub merging : (a b target target' : List ℕ) (n : Result ℕ Refusal) (r : ℕ) → r ≡ number_of n → Merging a b target target' n → Answering r (Merging a b target target')
merging a b target target' n r e s = answering (Merging a b target target') n r e s

-- a promise of the number itself
pub windowing : (patches : List ℕ) (n : ℕ) (windows : List ℕ) (k : ℕ) (answers answers' : List ℕ) (v r : ℕ) → r ≡ v
    → Windowing patches n windows k answers answers' v → Windowing patches n windows k answers answers' r
windowing patches n windows k answers answers' v r e s = subst (Windowing patches n windows k answers answers') (sym e) s
