-- Definitions that the contracts of this crate cite.
pub mod Warp
pub mod Beyond
pub mod Promises
pub mod Rectification
pub mod Agreement
pub mod Scored
pub mod Marked
