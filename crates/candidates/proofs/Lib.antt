-- Laws that the proofs of this crate, and of those above it, cite.
pub mod Inside
pub mod Tallies
pub mod Fours
pub mod Sums
pub mod Held
pub mod Rules
pub mod Listing
pub mod Unique
pub mod Refusing
pub mod Looks
pub mod Room
pub mod Marked
pub mod Determined
