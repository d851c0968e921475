-- `checkerboard_text::print::byte_at` meets its contract. Assumes nothing.
use Prim.Native.Nat.{ℕ, zero, suc}
use mathlib.Core.Path.{◌≡◌, refl, sym, ap, ◌∙◌}
use Rattle.patch_text.specs.Text.{hash, letter}
use Rattle.patch_text.proofs.Texts.{byte_feed, byte_letter}
use Rattle.checkerboard_text.proofs.print.byte_at.Goals as goal

letter_dark : (n : ℕ) → (n ≡ 0 → ⊥) → hash ≡ letter n
unfolding letter
letter_dark zero o = absurd (o refl)
letter_dark (suc n) o = refl

pub returns-then-x-size : goal.returns-then-x-size
returns-then-x-size c = sym (byte_feed _ _ _ c.if-x-size.true)

pub returns-then-mask-y-eq0 : goal.returns-then-mask-y-eq0
unfolding letter
returns-then-mask-y-eq0 c = sym (byte_letter _ _ _ c.if-x-size.false ∙ ap letter c.if-mask-y-eq0.true)

pub returns-else-mask-y-eq0 : goal.returns-else-mask-y-eq0
returns-else-mask-y-eq0 c = letter_dark _ c.if-mask-y-eq0.false ∙ sym (byte_letter _ _ _ c.if-x-size.false)
