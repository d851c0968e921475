-- Of an input that is longer than the largest mask, more need not be read: its answer is that of its start. Assumes nothing.
use Prim.Native.Nat.{ℕ, ◌≤◌, ◌<◌}
use native.Mathlib.Decide.{dec_lt}
use native.Mathlib.Omega.{arith}
use mathlib.Core.Path.{sym, subst}
use mathlib.Core.List.{List}
use lib.ListN.{length, take}
use lib.Seq.{take_all, length-take-le}
use Rattle.patch_text.specs.Text.{Answered, AnsweredWhole}
use Rattle.patch_text.specs.Text.Answered.{accepted, refused}
use Rattle.patch_text.proofs.Texts.{not_long}

-- 4160 is 64 lines of 65 bytes
pub cut_answers : (n : ℕ) → 4160 < n → (b t : List ℕ) → Answered (take n b) t → Answered b t
cut_answers n l b t = go (dec_lt n (length b))
  where
    go : Dec (n < length b) → Answered (take n b) t → Answered b t
    go (no o) a = subst (λ x. Answered x t) (take_all n b (omega arith)) a
    go (yes y) (accepted w h m r p) = absurd (omega (arith, not_long r, length-take-le n b (omega arith)))
    go (yes y) (refused f e) = refused (λ w h m r. omega (arith, not_long r)) e

-- the promise for what may have been read holds of what was
pub whole_answers : (buffer t : List ℕ) (n : ℕ) → n ≤ length buffer → AnsweredWhole buffer n t → Answered (take n buffer) t
whole_answers buffer t n l a = a (take n buffer) (sym (take_all (length buffer) (take n buffer) (omega (arith, length-take-le n buffer l))))
