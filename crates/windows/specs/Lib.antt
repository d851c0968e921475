-- Definitions that the contracts of this crate cite.
pub mod Rectangles
pub mod Windows
pub mod Steps
pub mod Promises
pub mod Meaning
