-- `frame::internal::capture_wrong` meets its contract. Assumes nothing.
use mathlib.Core.Path.{sym, ◌∙◌}
use native.Mathlib.Omega.{arith}
use Rattle.frame.specs.Image.{image}
use Rattle.frame.proofs.Pixels.{bytes_most}
use Rattle.frame.proofs.Held.{sides_held, sides_capture, length_capture}
use Rattle.frame.proofs.internal.capture_wrong.Goals as goal

pub returns-then-sides_wrong : goal.returns-then-sides_wrong
returns-then-sides_wrong c = sym (sides_capture (image _ _ _) (cc))

pub overflow_mul-result : goal.overflow_mul-result
overflow_mul-result c = let s = sides_held _ _ (sym c.sides_wrong.ensures ∙ c.if-sides_wrong.false) in omega arith

pub overflow_mul-result-2 : goal.overflow_mul-result-2
overflow_mul-result-2 c = let s = sides_held _ _ (sym c.sides_wrong.ensures ∙ c.if-sides_wrong.false) in omega (arith, bytes_most _ _ s.w_most s.h_most)

pub returns : goal.returns
returns c = sym (length_capture (image _ _ _) (sym c.sides_wrong.ensures ∙ c.if-sides_wrong.false))
