-- Definitions that the contracts of this crate cite.
pub mod Patches
pub mod Sides
pub mod Stack
pub mod Neighbours
pub mod Moments
pub mod Ready
pub mod Areas
pub mod Labels
pub mod Promises
