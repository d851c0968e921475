-- `Radial::distort` meets its contract, by whether k is 0. Assumes nothing.
use lib.Ieee.{of_bits, of_int}
use Rattle.base.proofs.Pick.{pick_yes, pick_no}
use Rattle.radial.specs.Lens.{distort}
use Rattle.radial.proofs.Radial.distort.Goals as goal

pub returns-then-self : goal.returns-then-self
unfolding distort of_bits of_int
returns-then-self c = pick_yes _ _ _ c.if-self.true

pub returns : goal.returns
unfolding distort of_bits of_int
returns c = pick_no _ _ _ c.if-self.false
