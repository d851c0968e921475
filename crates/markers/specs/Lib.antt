-- Definitions that the contracts of this crate cite.
pub mod Layout
pub mod Stamp
pub mod Promises
