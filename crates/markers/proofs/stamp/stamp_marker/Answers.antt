-- `markers::stamp::stamp_marker` meets its contract. Assumes nothing.
use lib.Ieee.{of_int, of_bits}
use Rattle.float.specs.Floats.{◌⊕◌, ◌⊖◌, ◌⊗◌, ◌⊘◌, f64}
use Rattle.frame.specs.Image.{white, black}
use Rattle.markers.specs.Stamp.{square, bullseye}
use Rattle.markers.proofs.Painted.{four_squares}
use Rattle.markers.proofs.stamp.stamp_marker.Goals as goal

pub returns : goal.returns
unfolding bullseye of_int of_bits
returns c =
    let a = c.args in
    let u = a.m ⊘ f64 6 in
    four_squares a.w a.h
    (square (a.x ⊖ a.q) (a.y ⊖ a.q) (a.m ⊕ f64 2 ⊗ a.q) white)
    (square a.x a.y a.m black)
    (square (a.x ⊕ u) (a.y ⊕ u) (f64 4 ⊗ u) white)
    (square (a.x ⊕ f64 2 ⊗ u) (a.y ⊕ f64 2 ⊗ u) (f64 2 ⊗ u) black)
    a.bytes.now _ _ _ _ c.requires.2 c.fill.ensures c.fill-2.ensures c.fill-3.ensures c.fill-4.ensures
