-- What the visits to the four neighbours of a pixel do to marks and waiting pixels. Assumes nothing.
use Prim.Native.Nat.{ℕ}
use mathlib.Core.Path.{◌≡◌}
use mathlib.Core.List.{List}
use Rattle.blobs.specs.Patches.{Dark, Touch}
use Rattle.blobs.specs.Patches.Touch.{right, left, under, over}
use Rattle.blobs.specs.Stack.{Marking, visit_left, visit_right, visit_up, visit_down, spread}
use Rattle.blobs.specs.Ready.{at, Held, Pixel}
use Rattle.blobs.proofs.Steps.{Reach, reach_then, reach_left, reach_right, reach_up, reach_down, left_marks, right_marks, up_marks, down_marks}

module _ {m : List ℕ} {w p : ℕ} (a : Marking) (x : Pixel m w p) (h : Held m a) where
  abbrev a₁ : Marking
  a₁ = visit_left m w p a

  abbrev a₂ : Marking
  a₂ = visit_right m w p a₁

  abbrev a₃ : Marking
  a₃ = visit_up m w p a₂

  r₁ : Reach m (Touch w p) a a₁
  r₁ = reach_left a x h

  r₂ : Reach m (Touch w p) a₁ a₂
  r₂ = reach_right a₁ x r₁.held

  r₃ : Reach m (Touch w p) a₂ a₃
  r₃ = reach_up a₂ x r₂.held

  r₄ : Reach m (Touch w p) a₃ (visit_down m w p a₃)
  r₄ = reach_down a₃ x r₃.held

  pub reach_spread : Reach m (Touch w p) a (spread m w p a)
  unfolding spread
  reach_spread = reach_then (reach_then (reach_then r₁ r₂) r₃) r₄

  -- all dark neighbours are marked
  pub spread_marks : (q : ℕ) → Touch w p q → Dark m q → at (spread m w p a).seen q ≡ 1
  unfolding spread
  spread_marks q (left e l) d = r₄.keeps q (r₃.keeps q (r₂.keeps q (left_marks a x h q e l d)))
  spread_marks q (right e l) d = r₄.keeps q (r₃.keeps q (right_marks a₁ x r₁.held q e l d))
  spread_marks q (over e) d = r₄.keeps q (up_marks a₂ x r₂.held q e d)
  spread_marks q (under e) d = down_marks a₃ x r₃.held q e d
