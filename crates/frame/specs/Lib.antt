-- Definitions that the contracts of this crate cite.
pub mod Image
pub mod Frame
pub mod Refusals
pub mod Limits
