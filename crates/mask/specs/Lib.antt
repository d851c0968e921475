-- Definitions that the contracts of this crate cite.
pub mod Mask
pub mod Planes
