-- `fit::grid::tap_outside` meets its contract. Assumes nothing.
use mathlib.Core.Path.{sym, ◌∙◌}
use Rattle.fit.proofs.Taps.{inside_within, nan_across, nan_down, numbers_outside}
use Rattle.fit.proofs.grid.tap_outside.Goals as goal

pub returns-then-inside : goal.returns-then-inside
returns-then-inside c = sym (inside_within _ _ _ _ (sym c.requires.2 ∙ c.if-inside.true))

pub returns-then-is_nan : goal.returns-then-is_nan
returns-then-is_nan c = c.past.ensures ∙ sym (nan_across _ _ _ _ (cc))

pub returns-then-is_nan-2 : goal.returns-then-is_nan-2
returns-then-is_nan-2 c = c.past-then-is_nan-2.ensures ∙ sym (nan_down _ _ _ _ (cc))

pub returns : goal.returns
returns c = sym (numbers_outside _ _ _ _ (cc) (cc) (sym c.requires.2 ∙ c.if-inside.false))
