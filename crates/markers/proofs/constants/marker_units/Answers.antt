-- `markers::constants::marker_units` meets its contract. Assumes nothing.
use lib.Ieee.{of_bits, of_int}
use mathlib.Core.Path.{refl}
use Rattle.markers.proofs.constants.marker_units.Goals as goal

pub returns : goal.returns
unfolding of_bits of_int
returns c = refl
