-- Definitions that the contracts of this crate cite.
pub mod Slices
pub mod Layouts
pub mod Tests
pub mod Promises
pub mod Whole
