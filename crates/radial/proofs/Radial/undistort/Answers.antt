-- `Radial::undistort` meets its contract, by its two tests. Assumes nothing.
use lib.Ieee.{of_bits, of_int}
use Rattle.base.proofs.Pick.{pick_yes}
use Rattle.float.specs.Floats.{d64}
use Rattle.radial.proofs.Steps.{undistort_near, undistort_far}
use Rattle.radial.specs.Lens.{undistort}
use Rattle.radial.proofs.Radial.undistort.Goals as goal

pub returns-then-self : goal.returns-then-self
unfolding undistort of_bits of_int
returns-then-self c = pick_yes _ _ _ c.if-self.true

pub returns-then-rd : goal.returns-then-rd
unfolding of_bits of_int d64
returns-then-rd c = undistort_near _ _ _ c.sqrt.ensures.value (cc) c.if-rd.true

pub returns : goal.returns
unfolding of_bits of_int d64
returns c = undistort_far _ _ _ c.sqrt.ensures.value (cc) _ (cc) c.newton-u.ensures
