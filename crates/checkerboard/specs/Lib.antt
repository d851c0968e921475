-- Definitions that the contracts of this crate cite.
pub mod Board
pub mod Promises
pub mod Most
