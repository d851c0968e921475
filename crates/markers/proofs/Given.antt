-- The answer of `stamp_fiducials` from its tests' number, and the tests' order. Assumes nothing.
use mathlib.Core.Path.{◌≡◌, refl, sym}
use mathlib.Core.List.{List}
use Prim.Native.Nat.{ℕ}
use native.Mathlib.Omega.{arith}
use Rattle.frame.specs.Image.{Image}
use Rattle.frame.specs.Refusals.{number, lowest_of}
use Rattle.frame.specs.declared.FrameSpec.{FrameSpec}
use Rattle.frame.specs.declared.refusals.Refusal.{Refusal}
use Rattle.frame.proofs.Given.{positive}
use Rattle.frame.proofs.Lowest.{Rising}
use Rattle.markers.specs.Stamp.{stamped}
use Rattle.markers.specs.Promises.{cell_tests, layout_tests, stamp_tests, Stamping}

-- a refusal leaves the bytes
module _ (img : Image) (f : FrameSpec) where
  pub stamping_refused : (r : Refusal) → lowest_of (stamp_tests img f) ≡ number r → Stamping img f (number r) img.bytes
  stamping_refused r e = record { given = sym e; accepted = λ z. absurd (omega (arith, positive r)); refused = λ _. refl }

  pub stamping_accepted : (out : List ℕ) → lowest_of (stamp_tests img f) ≡ 0 → out ≡ stamped img f → Stamping img f 0 out
  stamping_accepted out e p = record { given = sym e; accepted = λ _. p; refused = λ z. absurd (omega arith) }

-- the tests rise, so that a refusal is the lowest number by meaning
pub cell_rising : (cell : ℕ) → Rising 0 (cell_tests cell)
unfolding cell_tests
cell_rising cell = (omega arith, tt)

pub layout_rising : (f : FrameSpec) → Rising 0 (layout_tests f)
unfolding layout_tests
layout_rising f = (omega arith, (omega arith, tt))

pub stamp_rising : (img : Image) (f : FrameSpec) → Rising 0 (stamp_tests img f)
unfolding stamp_tests
stamp_rising img f = (omega arith, (omega arith, (omega arith, tt)))
