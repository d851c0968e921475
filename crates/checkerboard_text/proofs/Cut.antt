-- Of an input that is longer than every size, more need not be read: its answer is that of its start. Assumes nothing.
use Prim.Native.Nat.{ℕ, ◌<◌}
use native.Mathlib.Decide.{dec_lt}
use native.Mathlib.Omega.{arith}
use mathlib.Core.Path.{subst}
use mathlib.Core.List.{List}
use lib.ListN.{length, take}
use lib.Seq.{take_all, length-take-le}
use Rattle.checkerboard_text.specs.Text.{Answered}
use Rattle.checkerboard_text.specs.Text.Answered.{accepted, refused}
use Rattle.checkerboard_text.proofs.Sizes.{asks_long}

-- six bytes are `64 64` and a line feed
pub cut_answers : (n : ℕ) → 6 < n → (b t : List ℕ) → Answered (take n b) t → Answered b t
cut_answers n l b t = go (dec_lt n (length b))
  where
    go : Dec (n < length b) → Answered (take n b) t → Answered b t
    go (no o) a = subst (λ x. Answered x t) (take_all n b (omega arith)) a
    go (yes y) (accepted w h a p) = absurd (omega (arith, (asks_long a).1, length-take-le n b (omega arith)))
    go (yes y) (refused f e) = refused (λ w h a. omega (arith, (asks_long a).1)) e
