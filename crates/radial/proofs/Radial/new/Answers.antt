-- `Radial::new` meets its contract, by the test of the sides. Assumes nothing.
use mathlib.Core.Path.{ap, ◌∙◌}
use Rattle.std.specs.Prelude.{Ok}
use Rattle.frame.specs.Refusals.{side_tests}
use Rattle.frame.proofs.Given.{answer_first, answer_next, answer_none}
use Rattle.frame.proofs.Held.{sides_held}
use Rattle.radial.specs.Lens.{new_lens}
use Rattle.radial.proofs.Radial.new.Goals as goal

pub returns-then-sides_wrong : goal.returns-then-sides_wrong
unfolding new_lens side_tests
returns-then-sides_wrong c = answer_first _ _ _ _ (cc)

pub lens-requires : goal.lens-requires
lens-requires c = let h = sides_held c.args.w c.args.h (cc) in (h.w_least, h.w_most, h.h_least, h.h_most)

pub returns : goal.returns
unfolding new_lens side_tests
returns c = ap Ok c.lens.ensures ∙ answer_next _ _ _ _ (cc) (answer_none _)
