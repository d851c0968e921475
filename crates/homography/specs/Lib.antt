-- Definitions that the contracts of this crate cite.
pub mod Arithmetic
pub mod Elimination
pub mod Equations
pub mod Fractions
pub mod Homography
pub mod Inner
pub mod Rationals
pub mod Transform
