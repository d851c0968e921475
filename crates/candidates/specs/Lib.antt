-- Definitions that the contracts of this crate cite.
pub mod Ring
pub mod Areas
pub mod Promises
pub mod Bounds
pub mod Agreement
pub mod Lent
pub mod Held
pub mod OverPlanes
