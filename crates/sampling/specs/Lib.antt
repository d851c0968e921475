-- Definitions that the contracts of this crate cite.
pub mod Luma
pub mod Reading
