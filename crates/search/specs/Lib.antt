-- Definitions that the contracts of this crate cite.
pub mod Stages
pub mod Counts
pub mod Turn
