-- A table written by parts: what a callee wrote into a part that was lent to it, said of the whole. Assumes nothing.
use mathlib.Core.Path.{◌≡◌, sym, ap, ◌∙◌}
use mathlib.Core.List.{List}
use Prim.Native.Nat.{ℕ, ◌+◌, ◌-◌, ◌≤◌, ◌<◌}
use native.Mathlib.Omega.{arith}
use lib.ListN.{length, drop, length-drop}
use lib.Seq.{length-take-le}
use borrow.Rule.Slice.PartMut.{put_mid, mid_of}
use Rattle.base.specs.Loops.{filled}
use Rattle.base.proofs.Plane.{filled_cong}
use Rattle.base.proofs.Parts.{filled_on}

pub length_mid : {A : Type 0} (a k : ℕ) (b : List A) → a + k ≤ length b → length (mid_of a k b) ≡ k
length_mid a k b h = length-take-le k (drop a b) (omega (arith, length-drop a b))

-- the table f was written up to a, and a callee wrote the n entries g 0, g 1, .. that follow into the part from a to e
pub part_filled : {A : Type 0} (f g : ℕ → A) (l : List A) (a e n : ℕ) {b x : List A} → e ≡ a + n → e ≤ length b → b ≡ filled f a l
    → ((j : ℕ) → j < n → g j ≡ f (a + j)) → x ≡ filled g n (mid_of a (e - a) b) → put_mid a (e - a) b x ≡ filled f e l
part_filled f g l a e n {b} {x} h room before same wrote =
    let k : e - a ≡ n = omega arith in
    let part = mid_of a (e - a) b in
    let q : filled g n part ≡ filled (λ j. f (a + j)) n part = filled_cong g (λ j. f (a + j)) n part same in
    ap (put_mid a (e - a) b) (wrote ∙ q ∙ ap (λ m. filled (λ j. f (a + j)) m part) (sym k))
    ∙ filled_on f l b a (e - a) (omega arith) before
    ∙ ap (λ m. filled f m l) (omega arith)
