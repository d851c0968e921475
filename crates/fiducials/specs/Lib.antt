-- Definitions that the contracts of this crate cite.
pub mod Corners
pub mod Answers
pub mod Promises
