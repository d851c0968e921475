-- Definitions that the contracts of this crate cite.
pub mod Promises
pub mod Agreement
