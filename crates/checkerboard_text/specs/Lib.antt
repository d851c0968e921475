-- Definitions that the contracts of this crate cite.
pub mod Text
pub mod Steps
pub mod Counted
