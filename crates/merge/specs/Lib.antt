-- Definitions that the contracts of this crate cite, and what they mean.
pub mod Merged
pub mod Steps
pub mod Promises
pub mod Meaning
